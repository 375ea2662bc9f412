-- The data of a sparse array beside its trees, and why they are refused.
use Rattle.std.specs.Prelude.{◌≡◌, ◌&&◌, ◌==◌, ◌++◌, Bool, ℕ, List, length, codes, Option, None}
use Rattle.vx_base.specs.Answers.{unless}
use Rattle.vx_base.specs.declared.error.VortexError.{VortexError}
use Rattle.vx_base.specs.declared.error.VortexError.TheVariants.{MismatchedTypes, LengthMismatch}
use Rattle.vx_base.specs.PlainScalar.{PlainScalar, stored_scalar}
use Rattle.vx_base.specs.PlainType.{PlainType, same_type}
use Rattle.vx_base.specs.Storable.{same}
use Rattle.vx_base.specs.TypeText.{value_text}
use Rattle.vx_model.specs.Rows.{rows}
use Rattle.vx_model.specs.Tree.{PlainPatches}
use Rattle.vx_model.specs.TreeType.{tree_type}
use Rattle.vx_sparse_array.specs.declared.sparse_data.SparseData.{SparseData}

-- the data of patches and a fill: the length of the patched array, the offset and the number of the patches, and the fill
pub record AreData (d : SparseData) (p : PlainPatches) (s : PlainScalar) : Type 0 where
  pub len : d.len ≡ p.array_len
  pub offset : d.offset ≡ p.offset
  pub num_patches : d.num_patches ≡ length (rows p.indices)
  pub fill : d.fill.now ≡ s

-- equality of data: the same length, offset, number of patches and fill
abbrev pub same_data : SparseData → SparseData → Bool
same_data a b = a.len == b.len && a.offset == b.offset && a.num_patches == b.num_patches && same stored_scalar a.fill.now b.fill.now

-- why patches and a fill aren't those of a sparse array of a type and a length: first a type differs, then the length
abbrev pub data_refusal : PlainPatches → PlainScalar → PlainType → ℕ → Option VortexError
data_refusal p fill t len = unless (same_type (tree_type p.values) t && same_type fill.dtype t) MismatchedTypes (unless (len == p.array_len) LengthMismatch None)

-- the description of a fill
abbrev pub fill_text : PlainScalar → List ℕ
fill_text fill = codes "fill_value: " ++ value_text fill.dtype fill.value
