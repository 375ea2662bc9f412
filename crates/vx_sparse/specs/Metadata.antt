-- The metadata of sparse arrays as bytes: a message within a message, of the number of patches, their offset and the integer
-- type of their indices.
use Rattle.std.specs.Prelude.{◌≡◌, ◌⊎◌, ◌<◌, ◌^◌, ℕ, List, length, Option, option_map}
use Rattle.vx_base.specs.declared.ptype.PType.{PType}
use Rattle.vx_base.specs.PlainType.{integer_of, ptype_number}
use Rattle.vx_codec.specs.Message.{Whole, ended, message_field}
use Rattle.vx_metadata.specs.Numbers.{Numbers, numbers, three}
use Rattle.vx_model.specs.Rows.{rows}
use Rattle.vx_model.specs.Tree.{Tree, PlainPatches}
use Rattle.vx_model.specs.TreeType.{tree_type}
use Rattle.vx_sparse.specs.declared.metadata.SparseMetadata.{SparseMetadata}
use Rattle.vx_sparse_array.specs.Resolved.{patches_in}

-- metadata by their fields
abbrev pub by_fields : ℕ → ℕ → PType → SparseMetadata
by_fields len offset indices = record { len = len; offset = offset; indices_ptype = indices }

-- the metadata of patches: their number, their offset, and the integer type of their indices
abbrev pub of_patches : PlainPatches → SparseMetadata
of_patches p = by_fields (length (rows p.indices)) p.offset (integer_of (tree_type p.indices))

-- the metadata of a tree whose root is a Sparse
abbrev pub metadata_in : Tree → Option SparseMetadata
metadata_in t = option_map of_patches (patches_in t)

-- three numbers as a message that is the one field of another
abbrev pub message : Whole (Numbers × Unit {0})
message = message_field 1 numbers ended

-- the one spelling of metadata: within field 1, which is always there, the fields 1, 2 and 3 are the number of patches, the offset
-- and the number of the type of the indices
abbrev pub spelling : SparseMetadata → List ℕ
spelling m = message.spell (three m.len m.offset (ptype_number m.indices_ptype), tt)

-- numbers of 64 bits
pub record NumbersFit (m : SparseMetadata) : Type 0 where
  pub len : m.len < 2 ^ 64
  pub offset : m.offset < 2 ^ 64

-- metadata that bytes spell, of an array with a number of children: indices, values, and maybe chunk offsets
pub record IsSpelled (bytes : List ℕ) (children : ℕ) (m : SparseMetadata) : Type 0 where
  pub fits : NumbersFit m
  pub spelled : bytes ≡ spelling m
  pub count : (children ≡ 2) ⊎ (children ≡ 3)
