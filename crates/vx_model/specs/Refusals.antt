-- Why the constructors refuse, in the order of their checks, None where they don't; and the one form of validity.
use Rattle.std.specs.Prelude.{ℕ, ◌+◌, ◌*◌, ◌^◌, ℤ, pos, ◌+ℤ◌, ◌*ℤ◌, Bool, true, not, ◌&&◌, ◌||◌, ◌==◌, nat_le, if◌then◌else◌, List, length, map, ◌-◌, Option, Some, None}
use Rattle.std.specs.List.{list_all, list_any}
use Rattle.vx_base.specs.declared.error.VortexError.{VortexError}
use Rattle.vx_base.specs.declared.error.VortexError.TheVariants.{MismatchedTypes, LengthMismatch, OutOfBounds, IndicesNotAscending, TooManyRows, ValueTooLong, PartsNotCanonical}
use Rattle.vx_base.specs.declared.ptype.PType.{PType}
use Rattle.vx_base.specs.declared.ptype.PType.TheVariants.{I64}
use Rattle.vx_base.specs.declared.dtype.Nullability.{Nullability}
use Rattle.vx_base.specs.declared.dtype.Nullability.TheVariants.{NonNullable}
use Rattle.vx_base.specs.Answers.{unless}
use Rattle.vx_base.specs.Integers.{natural_bits, lies_in}
use Rattle.vx_base.specs.Packed.{packed_size, block_count}
use Rattle.vx_base.specs.PlainScalar.{PlainScalar, fits}
use Rattle.vx_base.specs.PlainType.{PlainType, is_nullable, is_flat, is_integer, is_bytes, is_unsigned, integer_of, allows_null, nullability_of, same_type}
use Rattle.vx_base.specs.PlainType as types
use Rattle.vx_base.specs.PlainValue.{is_null, bytes, is_short}
use Rattle.vx_base.specs.Timestamps.{PlainTimestamp}
use Rattle.vx_model.specs.Tree.{Tree, Trees, Validity, PlainPacked, PlainBlocks, PlainPatches, list_of}
use Rattle.vx_model.specs.Rows.{rows, valid_rows, offset_at, cut_at, below, block_rows, rle_place}
use Rattle.vx_model.specs.TreeType.{tree_type}
use Rattle.vx_model.specs.Extents.{extents_fit}
use Rattle.vx_time.specs.PartsOf.{units_per_second}
use Rattle.vx_model.specs.WellFormed.{ascend, are_offsets, differences_type, is_place, all_have_rows, is_whole_type, are_canonical, are_block_offsets, are_chunk_offsets}

-- whether validity has `len` rows
abbrev pub validity_length : Validity → ℕ → Bool
validity_length None len = true
validity_length (Some bits) len = length bits == len

-- whether a node of this nullability may have this validity: a non-nullable one has no null
abbrev pub validity_allowed : Validity → Nullability → Bool
validity_allowed None n = true
validity_allowed (Some bits) n = allows_null n || list_all (λ bit. bit) bits

-- validity in its one form: None where every bit is true
abbrev pub kept : Validity → Validity
kept None = None
kept (Some bits) = if list_all (λ bit. bit) bits then None else Some bits

-- why a flat list of `len` items is refused
abbrev pub primitive_refusal : ℕ → Validity → Nullability → Option VortexError
primitive_refusal len valid n = unless (validity_length valid len) LengthMismatch (unless (validity_allowed valid n) MismatchedTypes None)

-- why texts or binaries are refused, once their number is checked: each has fewer than 2^32 bytes, valid or not, and valid rows
-- are of the type
abbrev pub texts_refusal : PlainType → List (List ℕ) → Validity → Option VortexError
texts_refusal t vs valid =
    unless (list_all is_short vs) ValueTooLong
    (unless (validity_allowed valid (nullability_of t) && list_all (fits t) (valid_rows (kept valid) (map bytes vs))) MismatchedTypes None)

-- why a list of texts or binaries is refused
abbrev pub var_bin_view_refusal : List (List ℕ) → Validity → PlainType → Option VortexError
var_bin_view_refusal vs valid t =
    unless (is_bytes t) MismatchedTypes (unless (validity_length valid (length vs)) LengthMismatch (texts_refusal t vs valid))

-- why texts or binaries by offsets into bytes are refused
abbrev pub var_bin_refusal : Tree → List ℕ → Validity → PlainType → Option VortexError
var_bin_refusal offsets bs valid t =
    unless (is_integer (tree_type offsets) && not (is_nullable (tree_type offsets)) && is_bytes t) MismatchedTypes
    (unless (nat_le 1 (length (rows offsets)) && validity_length valid (length (rows offsets) - 1)) LengthMismatch
    (unless (are_offsets (length bs) (rows offsets)) OutOfBounds
    (texts_refusal t (cut_at (rows offsets) bs) valid)))

-- why storage is refused under timestamps: it has to be i64
abbrev pub timestamp_refusal : Tree → Option VortexError
timestamp_refusal storage = unless (same_type (tree_type storage) (types.primitive I64 (nullability_of (tree_type storage)))) MismatchedTypes None

-- why names and fields are refused as a struct
abbrev pub structure_refusal : List (List ℕ) → Trees → ℕ → Validity → Nullability → Option VortexError
structure_refusal names fields len valid n =
    unless (length names == length (list_of fields) && (all_have_rows len fields && validity_length valid len)) LengthMismatch
    (unless (validity_allowed valid n) MismatchedTypes None)

-- why elements and offsets are refused as lists
abbrev pub list_refusal : Tree → Tree → Validity → Nullability → Option VortexError
list_refusal elements offsets valid n =
    unless (is_integer (tree_type offsets) && not (is_nullable (tree_type offsets))) MismatchedTypes
    (unless (nat_le 1 (length (rows offsets)) && validity_length valid (length (rows offsets) - 1)) LengthMismatch
    (unless (are_offsets (length (rows elements)) (rows offsets)) OutOfBounds
    (unless (validity_allowed valid n) MismatchedTypes None)))

-- why elements are refused as lists of fixed size
abbrev pub fixed_size_list_refusal : Tree → ℕ → ℕ → Validity → Nullability → Option VortexError
fixed_size_list_refusal elements size len valid n =
    unless (length (rows elements) == len * size && validity_length valid len) LengthMismatch
    (unless (validity_allowed valid n) MismatchedTypes None)

-- why a child and a mask are refused as a masked node
abbrev pub masked_refusal : Tree → List Bool → Option VortexError
masked_refusal child valid =
    unless (is_flat (tree_type child) && is_nullable (tree_type child)) MismatchedTypes
    (unless (length valid == length (rows child)) LengthMismatch
    (unless (not (list_any is_null (rows child))) MismatchedTypes None))

-- why indices and values are refused as patches
abbrev pub patches_refusal : PlainPatches → Option VortexError
patches_refusal p =
    unless (is_integer (tree_type p.indices) && not (is_nullable (tree_type p.indices))) MismatchedTypes
    (unless (length (rows p.indices) == length (rows p.values)) LengthMismatch
    (unless (ascend p.offset (p.offset + p.array_len) (rows p.indices)) IndicesNotAscending None))

-- whether patches, if there are any, have values of the type
abbrev pub patches_of_type : PType → Option PlainPatches → Bool
patches_of_type p None = true
patches_of_type p (Some patches) = same_type (tree_type patches.values) (types.primitive p NonNullable)

-- whether patches, if there are any, are of an array of `len` rows
abbrev pub patches_length : ℕ → Option PlainPatches → Bool
patches_length len None = true
patches_length len (Some patches) = patches.array_len == len

-- why packed integers, with or without patches, are refused
abbrev pub bit_packed_refusal : PlainPacked → Option PlainPatches → Option VortexError
bit_packed_refusal k patches =
    unless (patches_of_type k.ptype patches) MismatchedTypes
    (unless (length k.bytes == packed_size k.width k.len && (validity_length k.valid k.len && patches_length k.len patches)) LengthMismatch
    (unless (nat_le k.width (natural_bits k.ptype)) OutOfBounds
    (unless (validity_allowed k.valid k.nullability) MismatchedTypes None)))

-- packed integers with their validity in its one form
abbrev pub kept_packed : PlainPacked → PlainPacked
kept_packed k = record k { valid = kept k.valid }

-- why differences and a reference are refused as a frame of reference
abbrev pub for_refusal : Tree → PlainScalar → Option VortexError
for_refusal encoded reference =
    unless (is_integer reference.dtype && (not (is_null reference.value) && same_type (tree_type encoded) (differences_type reference.dtype (tree_type encoded)))) MismatchedTypes None

-- why a tree is refused as zigzags
abbrev pub zig_zag_refusal : Tree → Option VortexError
zig_zag_refusal encoded = unless (is_unsigned (tree_type encoded)) MismatchedTypes None

-- why codes and values are refused as a dictionary
abbrev pub dict_refusal : Tree → Tree → Option VortexError
dict_refusal codes values =
    unless (is_integer (tree_type codes) && is_flat (tree_type values)) MismatchedTypes
    (unless (list_all (is_place (length (rows values))) (rows codes)) OutOfBounds None)

-- why patches and a fill are refused as a sparse node
abbrev pub sparse_refusal : PlainPatches → PlainScalar → Option VortexError
sparse_refusal p fill = unless (same_type (tree_type p.values) fill.dtype) MismatchedTypes None

-- why ends and values are refused as runs
abbrev pub run_end_refusal : Tree → Tree → Option VortexError
run_end_refusal ends values =
    unless (is_integer (tree_type ends) && (not (is_nullable (tree_type ends)) && is_integer (tree_type values))) MismatchedTypes
    (unless (length (rows ends) == length (rows values)) LengthMismatch
    (unless (ascend 1 (2 ^ 64) (rows ends)) OutOfBounds None))

-- why values, indices and offsets are refused as runs in blocks
abbrev pub rle_refusal : Tree → Tree → Tree → ℕ → Option VortexError
rle_refusal values indices offsets len =
    unless (is_integer (tree_type values) && (is_whole_type (tree_type indices) && is_whole_type (tree_type offsets))) MismatchedTypes
    (unless (length (rows indices) == block_rows * block_count len && length (rows offsets) == block_count len) LengthMismatch
    (unless (list_all (is_place (length (rows values))) (below (rle_place (rows offsets) (rows indices)) len)) OutOfBounds None))

-- why first and step are refused as a sequence
abbrev pub sequence_refusal : PType → ℤ → ℤ → ℕ → Option VortexError
sequence_refusal p first step len =
    unless (lies_in p step && (len == 0 || lies_in p first && lies_in p (first +ℤ pos (len - 1) *ℤ step))) OutOfBounds None

-- why bases and differences are refused as a delta node
abbrev pub delta_refusal : Tree → Tree → ℕ → Validity → Nullability → Option VortexError
delta_refusal bases deltas len valid n =
    unless (is_whole_type (tree_type bases) && same_type (tree_type deltas) (tree_type bases)) MismatchedTypes
    (unless (length (rows bases) == block_count len && (length (rows deltas) == block_rows * length (rows bases) && validity_length valid len)) LengthMismatch
    (unless (validity_allowed valid n) MismatchedTypes None))

-- why parts are refused as timestamps of a kind and nullability
abbrev pub datetime_parts_refusal : PlainTimestamp → Nullability → Tree → Tree → Tree → Option VortexError
datetime_parts_refusal k n days seconds subseconds =
    unless (same_type (tree_type days) (types.primitive (integer_of (tree_type days)) n) && (is_whole_type (tree_type seconds) && is_whole_type (tree_type subseconds))) MismatchedTypes
    (unless (length (rows seconds) == length (rows days) && length (rows subseconds) == length (rows days)) LengthMismatch
    (unless (are_canonical (units_per_second k.unit) (rows days) (rows seconds) (rows subseconds)) PartsNotCanonical None))

-- why integers packed in blocks, with or without patches, are refused
abbrev pub bit_packed_v2_refusal : PlainBlocks → Tree → Option PlainPatches → Option VortexError
bit_packed_v2_refusal k offsets patches =
    unless (is_whole_type (tree_type offsets) && patches_of_type k.ptype patches) MismatchedTypes
    (unless (length (rows offsets) == block_count k.len + 1 && (validity_length k.valid k.len && patches_length k.len patches)) LengthMismatch
    (unless (are_block_offsets (natural_bits k.ptype) (rows offsets) && length k.bytes == 128 * offset_at (rows offsets) (block_count k.len)) OutOfBounds
    (unless (validity_allowed k.valid k.nullability) MismatchedTypes None)))

-- integers packed in blocks with their validity in its one form
abbrev pub kept_blocks : PlainBlocks → PlainBlocks
kept_blocks k = record k { valid = kept k.valid }

-- why differences and references are refused as frames of reference
abbrev pub for_v2_refusal : Tree → Tree → Option VortexError
for_v2_refusal encoded references =
    unless (is_whole_type (tree_type references) && same_type (tree_type encoded) (differences_type (tree_type references) (tree_type encoded))) MismatchedTypes
    (unless (length (rows references) == block_count (length (rows encoded))) LengthMismatch None)

-- why chunk offsets are refused beside patches: their type, then their number, and, once the indices are looked at, what they count
abbrev pub chunked_refusal : PlainPatches → Tree → Option VortexError
chunked_refusal p chunks =
    unless (is_whole_type (tree_type p.indices) && is_whole_type (tree_type chunks)) MismatchedTypes
    (unless (length (rows p.indices) == length (rows p.values) && length (rows chunks) == block_count (p.offset + p.array_len)) LengthMismatch
    (unless (ascend p.offset (p.offset + p.array_len) (rows p.indices)) IndicesNotAscending
    (unless (are_chunk_offsets (rows p.indices) (rows chunks)) OutOfBounds None)))

-- why compression refuses a tree: an extent exceeds the row limit
abbrev pub compress_refusal : Tree → Option VortexError
compress_refusal t = unless (extents_fit t) TooManyRows None
