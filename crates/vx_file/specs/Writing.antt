-- What the writer's steps speak of: validity, a value behind its flag, and patches.
use Rattle.std.specs.Prelude.{ℕ, Bool, true, false, IsTrue, List, [], ◌∷◌, ◌++◌, length, Option, Some, None}
use Rattle.vx_base.specs.declared.ptype.PType.TheVariants.{I64}
use Rattle.vx_base.specs.PlainType.{PlainType, boolean, utf8, binary, timestamp, structure, list, fixed_size_list}
use Rattle.vx_base.specs.PlainType as types
use Rattle.vx_base.specs.PlainValue.{PlainValue, truth, int, bytes, items}
use Rattle.vx_codec.specs.Bits.{bits}
use Rattle.vx_codec.specs.Lists.{delimited}
use Rattle.vx_codec.specs.Varint.{varint}
use Rattle.vx_model.specs.Tree.{Tree, Validity, PlainPatches, bool, primitive, var_bin_view, constant, bit_packed, bit_packed_with, frame_of_reference, nulls, sparse, sequence, delta, bit_packed_v2, bit_packed_v2_with, sparse_chunked}
use Rattle.vx_spelling.specs.Fields.{truth_value, integer}
use Rattle.vx_spelling.specs.Storable.{all_within}
use Rattle.vx_spelling.specs.TreeSpelling.{flat_text, tree_text}
use Rattle.vx_spelling.specs.ValueSpelling.{count_values, each_field_text, each_text}

-- the spelling of validity, whose bits say how many rows there are
abbrev pub valid_text : Validity → List ℕ
valid_text None = 0 ∷ []
valid_text (Some bs) = 1 ∷ (bits (length bs)).spell bs

-- the spelling of a value that isn't null, behind its flag
abbrev pub content_text : PlainValue → PlainType → List ℕ
content_text (truth b) (boolean n) = truth_value.spell b
content_text (int z) (types.primitive p n) = (integer p).spell z
content_text (int z) (timestamp k n) = (integer I64).spell z
content_text (bytes bs) (utf8 n) = delimited.spell bs
content_text (bytes bs) (binary n) = delimited.spell bs
content_text (items vs) (structure fs n) = each_field_text vs fs
content_text (items vs) (list t n) = varint.spell (count_values vs) ++ each_text vs t
content_text (items vs) (fixed_size_list t size n) = each_text vs t
content_text _ _ = []

-- the indices and the values of patches are within the limits
abbrev pub PatchesWithin : PlainPatches → Type 0
PatchesWithin p = IsTrue (all_within p.indices) × IsTrue (all_within p.values)

-- patches, if there are any, are within the limits
abbrev pub MaybeWithin : Option PlainPatches → Type 0
MaybeWithin None = Unit {0}
MaybeWithin (Some p) = PatchesWithin p

-- chunk offsets, if there are any, are within the limits
abbrev pub ChunksWithin : Option Tree → Type 0
ChunksWithin None = Unit {0}
ChunksWithin (Some chunks) = IsTrue (all_within chunks)

-- the spelling of the patches of packed integers, if there are any
abbrev pub maybe_flat_text : Option PlainPatches → List ℕ
maybe_flat_text None = 0 ∷ []
maybe_flat_text (Some p) = 1 ∷ (flat_text p.array_len p.offset (tree_text p.indices) (tree_text p.values) ++ 0 ∷ [])

-- the spelling of chunk offsets, if there are any
abbrev pub chunks_text : Option Tree → List ℕ
chunks_text None = 0 ∷ []
chunks_text (Some chunks) = 1 ∷ tree_text chunks

-- whether a node never has a child
abbrev pub is_childless : Tree → Bool
is_childless (bool bs valid n) = true
is_childless (primitive p xs valid n) = true
is_childless (var_bin_view vs valid t) = true
is_childless (constant s len) = true
is_childless (nulls len) = true
is_childless (sequence p n first step len) = true
is_childless _ = false

-- whether a node holds packed or patched integers, or differences
abbrev pub is_packed : Tree → Bool
is_packed (bit_packed k) = true
is_packed (bit_packed_with k len offset indices values) = true
is_packed (bit_packed_v2 k offsets) = true
is_packed (bit_packed_v2_with k offsets len offset indices values) = true
is_packed (frame_of_reference encoded reference) = true
is_packed (delta bases deltas len valid n) = true
is_packed (sparse len offset indices values fill) = true
is_packed (sparse_chunked len offset indices values chunks fill) = true
is_packed _ = false
