-- Worked timestamps in parts, blocks and chunks, counted by hand, so that a wrong rule in the definitions does not check.
use Rattle.std.specs.Prelude.{◌≡◌, ℕ, ℤ, pos, negsuc, true, false, List, [], ◌∷◌, ◌++◌, map, Some, None, replicate, refl}
use Rattle.vx_base.specs.declared.ptype.PType.TheVariants.{U8, U16, U32, I8, I32, I64}
use Rattle.vx_base.specs.declared.dtype.Nullability.TheVariants.{NonNullable, Nullable}
use Rattle.vx_base.specs.declared.error.VortexError.TheVariants.{MismatchedTypes, LengthMismatch, IndicesNotAscending, OutOfBounds, PartsNotCanonical}
use Rattle.vx_base.specs.declared.timestamp.TimeUnit.TheVariants.{Milliseconds, Seconds}
use Rattle.vx_base.specs.PlainType as types
use Rattle.vx_base.specs.PlainScalar.{PlainScalar, scalar}
use Rattle.vx_base.specs.PlainValue.{null, int}
use Rattle.vx_base.specs.Timestamps.{PlainTimestamp, kind}
use Rattle.vx_model.specs.Tree.{Tree, patches, plain_blocks, primitive, datetime_parts, bit_packed_v2, bit_packed_v2_with, frame_of_reference_v2, sparse_chunked}
use Rattle.vx_model.specs.Rows.{rows, packed_in_block, moved_in_block}
use Rattle.vx_model.specs.TreeType.{tree_type}
use Rattle.vx_model.specs.Size.{size}
use Rattle.vx_model.specs.Extents.{extents}
use Rattle.vx_model.specs.Refusals.{datetime_parts_refusal, bit_packed_v2_refusal, for_v2_refusal, chunked_refusal}

abbrev numbers : List ℤ → Tree
numbers xs = primitive U16 xs None NonNullable

abbrev longs : List ℤ → Tree
longs xs = primitive I64 xs None NonNullable

-- ---- timestamps in parts

abbrev seconds : PlainTimestamp
seconds = kind Seconds None

-- a day, two seconds and 3 ms; a millisecond before 1970; a null
abbrev three_times : Tree
three_times = datetime_parts (kind Milliseconds None) Nullable (primitive I8 (pos 1 ∷ pos 0 ∷ pos 0 ∷ []) (Some (true ∷ true ∷ false ∷ [])) Nullable) (longs (pos 2 ∷ pos 0 ∷ pos 0 ∷ [])) (longs (pos 3 ∷ negsuc 0 ∷ pos 0 ∷ []))

pub rows-three_times : (rows three_times ≡ int (pos 86_402_003) ∷ int (negsuc 0) ∷ null ∷ [])
    × (tree_type three_times ≡ types.timestamp (kind Milliseconds None) Nullable) × (size three_times ≡ 52) × (extents three_times ≡ 3 ∷ [])
rows-three_times = (refl, refl, refl, refl)

-- one row of days, seconds and subseconds
abbrev of_parts : ℤ × (ℤ × ℤ) → Tree × (Tree × Tree)
of_parts p = (longs (p.0 ∷ []), (longs (p.1.0 ∷ []), longs (p.1.1 ∷ [])))

-- parts of unlike signs, a day of seconds, and a second of subseconds are no split; the last second of a day is
pub refused_parts : map (λ p. datetime_parts_refusal seconds NonNullable (of_parts p).0 (of_parts p).1.0 (of_parts p).1.1)
    ((pos 1, (negsuc 0, pos 0)) ∷ (pos 0, (pos 86_400, pos 0)) ∷ (pos 0, (pos 0, pos 1)) ∷ (pos 0, (pos 86_399, pos 0)) ∷ (negsuc 0, (negsuc 86_398, pos 0)) ∷ [])
    ≡ Some PartsNotCanonical ∷ Some PartsNotCanonical ∷ Some PartsNotCanonical ∷ None ∷ None ∷ []
refused_parts = refl

-- the sum has 64 signed bits: 2^63 - 1 seconds are 106,751,991,167,300 days and 55,807 seconds
pub refused_sums : map (λ s. datetime_parts_refusal seconds NonNullable (longs (pos 106_751_991_167_300 ∷ [])) (longs (s ∷ [])) (longs (pos 0 ∷ []))) (pos 55_807 ∷ pos 55_808 ∷ []) ≡ None ∷ Some PartsNotCanonical ∷ []
refused_sums = refl

-- days are as nullable as the timestamps, and all parts equally long
pub refused_columns :
    (datetime_parts_refusal seconds Nullable (longs []) (longs []) (longs []) ≡ Some MismatchedTypes)
    × (datetime_parts_refusal seconds NonNullable (longs []) (primitive I64 [] None Nullable) (longs []) ≡ Some MismatchedTypes)
    × (datetime_parts_refusal seconds NonNullable (longs []) (longs []) (longs (pos 0 ∷ [])) ≡ Some LengthMismatch)
refused_columns = (refl, refl, refl)

-- ---- integers packed in blocks

-- a byte, and zeros up to a unit of 128
abbrev unit : ℕ → List ℕ
unit byte = byte ∷ replicate 127 0

-- 1, a null and 1 at one bit a row: 128 bytes, two of each offset, and one of validity
abbrev one_block : Tree
one_block = bit_packed_v2 (plain_blocks U8 (unit 7) 3 (Some (true ∷ false ∷ true ∷ [])) Nullable) (numbers (pos 0 ∷ pos 1 ∷ []))

pub rows-one_block : (rows one_block ≡ int (pos 1) ∷ null ∷ int (pos 1) ∷ []) × (tree_type one_block ≡ types.primitive U8 Nullable) × (size one_block ≡ 133) × (extents one_block ≡ 3 ∷ [])
rows-one_block = (refl, refl, refl, refl)

-- 200, which the block's bit doesn't hold, is a patch: two bytes of its index, and one of its value
abbrev patched_block : Tree
patched_block = bit_packed_v2_with (plain_blocks U8 (unit 5) 3 None NonNullable) (numbers (pos 0 ∷ pos 1 ∷ [])) 3 0 (numbers (pos 1 ∷ [])) (primitive U8 (pos 200 ∷ []) None NonNullable)

pub rows-patched_block : (rows patched_block ≡ int (pos 1) ∷ int (pos 200) ∷ int (pos 1) ∷ []) × (size patched_block ≡ 135) × (extents patched_block ≡ 3 ∷ [])
rows-patched_block = (refl, refl, refl)

-- a block of one bit a row, one of none, and one of two, which begins where the second does
pub rows-of_blocks : map (packed_in_block (unit 5 ++ unit 14 ++ unit 0) (rows (numbers (pos 0 ∷ pos 1 ∷ pos 1 ∷ pos 3 ∷ [])))) (0 ∷ 1 ∷ 2 ∷ 1_024 ∷ 2_047 ∷ 2_048 ∷ 2_049 ∷ 2_050 ∷ [])
    ≡ int (pos 1) ∷ int (pos 0) ∷ int (pos 1) ∷ int (pos 0) ∷ int (pos 0) ∷ int (pos 2) ∷ int (pos 3) ∷ int (pos 0) ∷ []
rows-of_blocks = refl

-- a width is at most the type's bits, less one of a signed type; the first offset is 0, and there is one behind the last block
pub refused_widths :
    (map (λ os. bit_packed_v2_refusal (plain_blocks U8 (unit 1) 1 None NonNullable) (numbers os) None) ((pos 0 ∷ pos 1 ∷ []) ∷ (pos 0 ∷ pos 9 ∷ []) ∷ (pos 0 ∷ []) ∷ (pos 1 ∷ pos 1 ∷ []) ∷ (pos 0 ∷ pos 2 ∷ []) ∷ [])
    ≡ None ∷ Some OutOfBounds ∷ Some LengthMismatch ∷ Some OutOfBounds ∷ Some OutOfBounds ∷ [])
    × (map (λ w. bit_packed_v2_refusal (plain_blocks I8 (replicate 1_024 0) 1 None NonNullable) (numbers (pos 0 ∷ w ∷ [])) None) (pos 8 ∷ []) ≡ Some OutOfBounds ∷ [])
    × (bit_packed_v2_refusal (plain_blocks U8 (unit 1) 1_025 None NonNullable) (numbers (pos 0 ∷ pos 1 ∷ pos 0 ∷ [])) None ≡ Some OutOfBounds)
refused_widths = (refl, refl, refl)

-- the types before the lengths, those before the offsets, and those before nulls in a non-nullable node
pub refused_blocks :
    (bit_packed_v2_refusal (plain_blocks U8 [] 1 None NonNullable) (primitive U16 (pos 0 ∷ []) None Nullable) None ≡ Some MismatchedTypes)
    × (bit_packed_v2_refusal (plain_blocks U8 [] 1 (Some []) NonNullable) (numbers (pos 1 ∷ pos 1 ∷ [])) None ≡ Some LengthMismatch)
    × (bit_packed_v2_refusal (plain_blocks U8 [] 1 (Some (false ∷ [])) NonNullable) (numbers (pos 1 ∷ pos 1 ∷ [])) None ≡ Some OutOfBounds)
    × (bit_packed_v2_refusal (plain_blocks U8 [] 1 (Some (false ∷ [])) NonNullable) (numbers (pos 0 ∷ pos 0 ∷ [])) None ≡ Some MismatchedTypes)
    × (bit_packed_v2_refusal (plain_blocks U8 [] 2 None NonNullable) (numbers (pos 0 ∷ pos 0 ∷ [])) (Some (patches 2 0 (numbers (pos 1 ∷ [])) (numbers (pos 9 ∷ [])))) ≡ Some MismatchedTypes)
refused_blocks = (refl, refl, refl, refl, refl)

-- ---- frames of reference by blocks

-- the second block has a reference of its own, and a sum that leaves the type comes in again
pub rows-of_frames : map (moved_in_block I8 (rows (primitive I8 (negsuc 4 ∷ pos 100 ∷ []) None NonNullable)) (rows (primitive U8 (replicate 1_024 (pos 7) ++ (pos 1 ∷ pos 28 ∷ [])) None NonNullable))) (0 ∷ 1_023 ∷ 1_024 ∷ 1_025 ∷ [])
    ≡ int (pos 2) ∷ int (pos 2) ∷ int (pos 101) ∷ int (negsuc 127) ∷ []
rows-of_frames = refl

abbrev one_frame : Tree
one_frame = frame_of_reference_v2 (primitive U8 (pos 1 ∷ pos 0 ∷ []) (Some (true ∷ false ∷ [])) Nullable) (primitive I8 (negsuc 4 ∷ []) None NonNullable)

pub rows-one_frame : (rows one_frame ≡ int (negsuc 3) ∷ null ∷ []) × (tree_type one_frame ≡ types.primitive I8 Nullable) × (size one_frame ≡ 4) × (extents one_frame ≡ 2 ∷ [])
rows-one_frame = (refl, refl, refl, refl)

-- differences are unsigned and as wide as the references, of which each block has one
pub refused_frames :
    map (λ references. for_v2_refusal (primitive U32 (pos 0 ∷ pos 0 ∷ []) None NonNullable) references)
    (longs (pos 0 ∷ []) ∷ primitive I32 (pos 0 ∷ pos 0 ∷ []) None NonNullable ∷ primitive I32 (pos 0 ∷ []) None NonNullable ∷ primitive I32 (pos 0 ∷ []) None Nullable ∷ [])
    ≡ Some MismatchedTypes ∷ Some LengthMismatch ∷ None ∷ Some MismatchedTypes ∷ []
refused_frames = refl

-- ---- chunks of patches

abbrev no_byte : PlainScalar
no_byte = scalar (types.primitive U8 Nullable) null

-- 9 at row 1 of four, else null: two bytes of an index, one of a value, two of a chunk offset for each chunk below 1,027, and one of the fill
abbrev one_patch : Tree
one_patch = sparse_chunked 4 1_023 (numbers (pos 1_024 ∷ [])) (primitive U8 (pos 9 ∷ []) None Nullable) (numbers (pos 0 ∷ pos 0 ∷ [])) no_byte

pub rows-one_patch : (rows one_patch ≡ null ∷ int (pos 9) ∷ null ∷ null ∷ []) × (tree_type one_patch ≡ types.primitive U8 Nullable) × (size one_patch ≡ 8) × (extents one_patch ≡ 4 ∷ [])
rows-one_patch = (refl, refl, refl, refl)

-- chunk offsets count the indices before each chunk, and there is one for each chunk
pub refused_chunks : map (λ cs. chunked_refusal (patches 3_000 0 (numbers (pos 5 ∷ pos 1_500 ∷ pos 2_999 ∷ [])) (numbers (pos 1 ∷ pos 2 ∷ pos 3 ∷ []))) (numbers cs))
    ((pos 0 ∷ pos 1 ∷ pos 2 ∷ []) ∷ (pos 0 ∷ pos 1 ∷ pos 1 ∷ []) ∷ (pos 0 ∷ pos 1 ∷ []) ∷ [])
    ≡ None ∷ Some OutOfBounds ∷ Some LengthMismatch ∷ []
refused_chunks = refl

-- the chunks are those of the indices, from the offset on; indices that don't rise come before a wrong count
pub refused_offsets :
    (chunked_refusal (patches 100 1_000 (numbers (pos 1_050 ∷ [])) (numbers (pos 1 ∷ []))) (numbers (pos 0 ∷ pos 0 ∷ [])) ≡ None)
    × (chunked_refusal (patches 3 0 (numbers (pos 1 ∷ pos 1 ∷ [])) (numbers (pos 1 ∷ pos 2 ∷ []))) (numbers (pos 7 ∷ [])) ≡ Some IndicesNotAscending)
refused_offsets = (refl, refl)
