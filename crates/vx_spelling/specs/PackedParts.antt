-- The layout of patches, sparse columns, packed integers, frames of reference and deltas behind their ids, given the format of their
-- children: the fields in order, which of them the constructor accepts, and the node of them.
use Rattle.std.specs.Prelude.{ℕ, Bool, List, Option, Some, None, ◌==◌, cond, is_none}
use Rattle.vx_base.specs.declared.dtype.Nullability.{Nullability}
use Rattle.vx_base.specs.declared.ptype.PType.{PType}
use Rattle.vx_base.specs.Packed.{packed_size}
use Rattle.vx_base.specs.PlainType.{PlainType}
use Rattle.vx_base.specs.PlainValue.{PlainValue}
use Rattle.vx_codec.specs.FixedWidth.{byte, enumerated}
use Rattle.vx_codec.specs.Format.{Format, pair, both, tested}
use Rattle.vx_codec.specs.Lists.{optional}
use Rattle.vx_codec.specs.Varint.{varint}
use Rattle.vx_model.specs.Refusals.{patches_refusal, chunked_refusal, bit_packed_refusal, for_refusal, zig_zag_refusal, sparse_refusal, delta_refusal, bit_packed_v2_refusal, for_v2_refusal}
use Rattle.vx_model.specs.Tree.{Tree, Validity, PlainPacked, PlainBlocks, PlainPatches, plain_packed, plain_blocks, patches, chunked, packed_of, blocks_of, sparse_of}
use Rattle.vx_model.specs.Tree as trees
use Rattle.vx_spelling.specs.Fields.{nullability, ptype, row_count, validity, packed_bytes, counted_bytes}
use Rattle.vx_spelling.specs.ValueSpelling.{scalar_parts}
use Rattle.vx_spelling.specs.LeafParts.{scalar_of}

-- ---- patches

-- the number of rows of the array, the offset, the indices and the values
abbrev pub FlatParts : Type 0
FlatParts = (ℕ × ℕ) × (Tree × Tree)

-- patches without chunk offsets, of their parts
abbrev pub flat_of : FlatParts → PlainPatches
flat_of x = patches x.0.0 x.0.1 x.1.0 x.1.1

-- layout: row count of the array, offset, indices, values
abbrev pub flat_fields : Format Tree → Format FlatParts
flat_fields child = both (both row_count varint) (both child child)

-- the byte that stands where chunk offsets could: 0
abbrev pub no_chunks_number : Unit {0} → ℕ
no_chunks_number u = 0

-- accepts a byte 0 alone
abbrev pub no_chunks_from : ℕ → Option (Unit {0})
no_chunks_from n = cond (n == 0) (Some tt) None

-- patches of packed integers, whose nodes keep no chunk offsets
abbrev pub flat_ok : FlatParts × Unit {0} → Bool
flat_ok x = is_none (patches_refusal (flat_of x.0))

-- layout: patches, and a byte 0 for no chunk offsets
abbrev pub flat_parts : Format Tree → Format (FlatParts × Unit {0})
flat_parts child = tested flat_ok (both (flat_fields child) (enumerated no_chunks_number no_chunks_from))

-- patches, and their chunk offsets where there are any
abbrev pub PatchParts : Type 0
PatchParts = FlatParts × Option Tree

-- patches of their parts
abbrev pub patches_of : PatchParts → PlainPatches
patches_of x = chunked x.0.0.0 x.0.0.1 x.0.1.0 x.0.1.1 x.1

-- whether the constructor of patches accepts these parts
abbrev pub patches_ok : PatchParts → Bool
patches_ok (x, None) = is_none (patches_refusal (flat_of x))
patches_ok (x, Some chunks) = is_none (chunked_refusal (flat_of x) chunks)

-- patches, with the chunk offsets that there are
abbrev pub patch_parts : Format Tree → Format PatchParts
patch_parts child = tested patches_ok (both (flat_fields child) (optional child))

-- the patches, and the type and the value of the fill
abbrev pub SparseParts : Type 0
SparseParts = PatchParts × (PlainType × PlainValue)

-- whether the constructor of sparse nodes accepts these parts
abbrev pub sparse_ok : SparseParts → Bool
sparse_ok x = is_none (sparse_refusal (patches_of x.0) (scalar_of x.1))

-- layout: patches, the fill as a scalar
abbrev pub sparse_parts : Format Tree → Format SparseParts
sparse_parts child = tested sparse_ok (both (patch_parts child) scalar_parts)

-- the sparse node of its parts
abbrev pub sparse_from : SparseParts → Tree
sparse_from x = sparse_of (patches_of x.0) (scalar_of x.1)

-- ---- packed integers, frames of reference, differences

-- the type, the nullability, the width, the row count, the packed bytes and the validity
abbrev pub PackedFields : Type 0
PackedFields = ((PType × Nullability) × (ℕ × ℕ)) × (List ℕ × Validity)

-- the type, the width and the number of rows, then the packed bytes, whose number follows, and the validity
abbrev pub packed_fields : Format PackedFields
packed_fields = pair (both (both ptype nullability) (both byte row_count)) (λ h. both (packed_bytes (packed_size h.1.0 h.1.1)) (validity h.1.1))

-- packed integers of their parts
abbrev pub plain_packed_of : PackedFields → PlainPacked
plain_packed_of x = plain_packed x.0.0.0 x.0.1.0 x.1.0 x.0.1.1 x.1.1 x.0.0.1

-- packed integers, and their patches where there are any
abbrev pub PackedParts : Type 0
PackedParts = PackedFields × Option (FlatParts × Unit {0})

-- the patches of their parts, where there are any
abbrev pub flat_patches_of : Option (FlatParts × Unit {0}) → Option PlainPatches
flat_patches_of None = None
flat_patches_of (Some x) = Some (flat_of x.0)

-- whether the constructor of bitpacked nodes accepts these parts
abbrev pub packed_ok : PackedParts → Bool
packed_ok x = is_none (bit_packed_refusal (plain_packed_of x.0) (flat_patches_of x.1))

-- layout: packed integers, and a flag with the patches behind it where there are any
abbrev pub packed_parts : Format Tree → Format PackedParts
packed_parts child = tested packed_ok (both packed_fields (optional (flat_parts child)))

-- the bitpacked node of its parts
abbrev pub packed_from : PackedParts → Tree
packed_from x = packed_of (plain_packed_of x.0) (flat_patches_of x.1)

-- the type, the nullability, the row count, the block offsets, the packed bytes and the validity
abbrev pub BlocksFields : Type 0
BlocksFields = ((PType × Nullability) × ℕ) × (Tree × (List ℕ × Validity))

-- the type and the number of rows, then the block offsets, the packed bytes and the validity
abbrev pub blocks_fields : Format Tree → Format BlocksFields
blocks_fields child = pair (both (both ptype nullability) row_count) (λ h. both child (both counted_bytes (validity h.1)))

-- packed blocks of their parts
abbrev pub plain_blocks_of : BlocksFields → PlainBlocks
plain_blocks_of x = plain_blocks x.0.0.0 x.1.1.0 x.0.1 x.1.1.1 x.0.0.1

-- packed blocks, and their patches where there are any
abbrev pub BlocksParts : Type 0
BlocksParts = BlocksFields × Option (FlatParts × Unit {0})

-- whether the constructor of bitpacked.v2 nodes accepts these parts
abbrev pub blocks_ok : BlocksParts → Bool
blocks_ok x = is_none (bit_packed_v2_refusal (plain_blocks_of x.0) x.0.1.0 (flat_patches_of x.1))

-- layout: packed blocks, and a flag with the patches behind it where there are any
abbrev pub blocks_parts : Format Tree → Format BlocksParts
blocks_parts child = tested blocks_ok (both (blocks_fields child) (optional (flat_parts child)))

-- the bitpacked.v2 node of its parts
abbrev pub blocks_from : BlocksParts → Tree
blocks_from x = blocks_of (plain_blocks_of x.0) x.0.1.0 (flat_patches_of x.1)

-- the encoded integers, and the type and the value of the reference
abbrev pub ForParts : Type 0
ForParts = Tree × (PlainType × PlainValue)

-- whether the constructor of for nodes accepts these parts
abbrev pub for_ok : ForParts → Bool
for_ok x = is_none (for_refusal x.0 (scalar_of x.1))

-- layout: encoded, the reference as a scalar
abbrev pub for_parts : Format Tree → Format ForParts
for_parts child = tested for_ok (both child scalar_parts)

-- the for node of its parts
abbrev pub for_of : ForParts → Tree
for_of x = trees.frame_of_reference x.0 (scalar_of x.1)

-- whether the constructor of for.v2 nodes accepts encoded integers and references
abbrev pub frames_ok : Tree × Tree → Bool
frames_ok x = is_none (for_v2_refusal x.0 x.1)

-- layout: encoded, references
abbrev pub frames_parts : Format Tree → Format (Tree × Tree)
frames_parts child = tested frames_ok (both child child)

-- the for.v2 node of its parts
abbrev pub frames_of : Tree × Tree → Tree
frames_of x = trees.frame_of_reference_v2 x.0 x.1

-- the nullability, the row count, the bases, the deltas and the validity
abbrev pub DeltaParts : Type 0
DeltaParts = (Nullability × ℕ) × ((Tree × Tree) × Validity)

-- whether the constructor of delta nodes accepts these parts
abbrev pub delta_ok : DeltaParts → Bool
delta_ok x = is_none (delta_refusal x.1.0.0 x.1.0.1 x.0.1 x.1.1 x.0.0)

-- layout: nullability, row count, bases, deltas, validity
abbrev pub delta_parts : Format Tree → Format DeltaParts
delta_parts child = tested delta_ok (pair (both nullability row_count) (λ h. both (both child child) (validity h.1)))

-- the delta node of its parts
abbrev pub delta_of : DeltaParts → Tree
delta_of x = trees.delta x.1.0.0 x.1.0.1 x.0.1 x.1.1 x.0.0

-- whether the constructor of zigzag nodes accepts the encoded integers
abbrev pub zig_zag_ok : Tree → Bool
zig_zag_ok encoded = is_none (zig_zag_refusal encoded)

-- layout: encoded
abbrev pub zig_zag_parts : Format Tree → Format Tree
zig_zag_parts child = tested zig_zag_ok child
