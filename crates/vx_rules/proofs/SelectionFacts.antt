-- Worked rows chosen by position, so that a wrong rule in the definitions does not check.
use Rattle.std.specs.Prelude.{◌≡◌, true, false, List, [], ◌∷◌, map, replicate, None, Some, refl}
use Rattle.vx_base.specs.declared.dtype.Nullability.TheVariants.{NonNullable, Nullable}
use Rattle.vx_base.specs.declared.error.VortexError.TheVariants.{MismatchedTypes, LengthMismatch, OutOfBounds}
use Rattle.vx_base.specs.declared.ptype.PType.TheVariants.{U8, U64}
use Rattle.vx_base.specs.PlainScalar.{scalar}
use Rattle.vx_base.specs.PlainType as types
use Rattle.vx_base.specs.PlainValue.{PlainValue, null, items, of_list}
use Rattle.vx_model.specs.Column.{Column, column, column_of}
use Rattle.vx_rules.specs.Selections.{slice_refusal, sliced, mask_refusal, filtered, masked, take_refusal, taken, row_refusal, row_scalar}
use Rattle.vx_rules.proofs.Samples.{S, T, chunked_of, i32, lists, maybe_i32, minus_one, mostly_999, sparse_of, stamps, text, u8, whole, wholes, seconds}

-- the sample columns, spelled out; chunk offsets change no row
pub samples :
    (S ≡ column i32 (wholes (1 ∷ 10 ∷ 1 ∷ 20 ∷ 1 ∷ 30 ∷ 1 ∷ 1 ∷ [])))
    × (column_of (chunked_of i32 (1 ∷ 3 ∷ 5 ∷ []) (wholes (10 ∷ 20 ∷ 30 ∷ [])) (whole 1) 8) ≡ S) × (T ≡ column stamps (minus_one ∷ whole 86_400 ∷ []))
samples = (refl, refl, refl)

-- ---- slice

-- rows 2 to 5, and two rows of the fill; row 8 is the ninth, of which there is none
pub slices :
    (sliced S 2 6 ≡ column i32 (wholes (1 ∷ 20 ∷ 1 ∷ 30 ∷ []))) × (sliced S 6 8 ≡ column i32 (wholes (1 ∷ 1 ∷ []))) × (sliced T 1 2 ≡ column stamps (whole 86_400 ∷ []))
    × (map (λ end. slice_refusal S 6 end) (6 ∷ 8 ∷ 9 ∷ 5 ∷ []) ≡ None ∷ None ∷ Some OutOfBounds ∷ Some OutOfBounds ∷ [])
slices = (refl, refl, refl, refl)

-- nothing, at the end and in an empty column
pub empty_slices : (sliced S 8 8 ≡ column i32 []) × (slice_refusal S 8 8 ≡ None) × (slice_refusal (column i32 []) 0 0 ≡ None) × (slice_refusal (column i32 []) 0 1 ≡ Some OutOfBounds)
empty_slices = (refl, refl, refl, refl)

-- a whole column
pub whole_slice : (sliced mostly_999 0 1_000 ≡ column (types.primitive U64 NonNullable) (whole 0 ∷ replicate 999 (whole 999))) × (slice_refusal mostly_999 0 1_000 ≡ None)
whole_slice = (refl, refl)

-- ---- filter and mask

pub filters :
    (filtered S (false ∷ true ∷ true ∷ false ∷ false ∷ false ∷ false ∷ false ∷ []) ≡ column i32 (wholes (10 ∷ 1 ∷ [])))
    × (filtered T (true ∷ false ∷ []) ≡ column stamps (minus_one ∷ []))
    × (filtered (column_of (sparse_of maybe_i32 (0 ∷ 3 ∷ 6 ∷ []) (wholes (33 ∷ 44 ∷ 55 ∷ [])) null 7)) (false ∷ true ∷ false ∷ true ∷ false ∷ true ∷ true ∷ [])
    ≡ column maybe_i32 (null ∷ whole 44 ∷ null ∷ whole 55 ∷ []))
filters = (refl, refl, refl)

pub masks :
    (masked S (false ∷ replicate 7 true) ≡ column maybe_i32 (null ∷ wholes (10 ∷ 1 ∷ 20 ∷ 1 ∷ 30 ∷ 1 ∷ 1 ∷ [])))
    × (masked T (false ∷ true ∷ []) ≡ column (types.timestamp seconds Nullable) (null ∷ whole 86_400 ∷ []))
masks = (refl, refl)

-- with every bit true nothing is null, and the type is nullable still
pub full_mask : masked (column u8 (whole 5 ∷ [])) (true ∷ []) ≡ column (types.primitive U8 Nullable) (whole 5 ∷ [])
full_mask = refl

-- one bit too few, one too many
pub mask_lengths : map (λ len. mask_refusal S (replicate len true)) (7 ∷ 8 ∷ 9 ∷ []) ≡ Some LengthMismatch ∷ None ∷ Some LengthMismatch ∷ []
mask_lengths = refl

-- the lists of 1 and 2, of none, null, and of 3: filter keeps the first and the null, mask the second alone
pub nested_rows :
    let c : Column = column lists (items (of_list (wholes (1 ∷ 2 ∷ []))) ∷ items (of_list []) ∷ null ∷ items (of_list (wholes (3 ∷ []))) ∷ []) in
    (filtered c (true ∷ false ∷ true ∷ false ∷ []) ≡ column lists (items (of_list (wholes (1 ∷ 2 ∷ []))) ∷ null ∷ []))
    × (masked c (false ∷ true ∷ false ∷ false ∷ []) ≡ column lists (null ∷ items (of_list []) ∷ null ∷ null ∷ []))
nested_rows = (refl, refl)

-- ---- take

abbrev maybe_u64 : List PlainValue → Column
maybe_u64 vs = column (types.primitive U64 Nullable) vs

-- in any order, as often as asked; a null index gives a null, and a type that allows it
pub takes :
    (taken S (maybe_u64 (whole 3 ∷ null ∷ whole 0 ∷ [])) ≡ column maybe_i32 (whole 20 ∷ null ∷ whole 1 ∷ []))
    × (taken S (column u8 (wholes (3 ∷ 3 ∷ []))) ≡ column i32 (wholes (20 ∷ 20 ∷ []))) × (taken T (column u8 (whole 1 ∷ [])) ≡ column stamps (whole 86_400 ∷ []))
takes = (refl, refl, refl)

-- 8 and -1 are no rows of eight; texts are no indices, even if there are none
pub refused_indices :
    (map (λ v. take_refusal S (column maybe_i32 (v ∷ []))) (whole 7 ∷ null ∷ whole 8 ∷ minus_one ∷ []) ≡ None ∷ None ∷ Some OutOfBounds ∷ Some OutOfBounds ∷ [])
    × (take_refusal S (column text []) ≡ Some MismatchedTypes) × (take_refusal (column i32 []) (maybe_u64 (null ∷ [])) ≡ None)
refused_indices = (refl, refl, refl)

-- ---- a single row

pub single_rows : (row_scalar S 3 ≡ scalar i32 (whole 20)) × (map (row_refusal S) (3 ∷ 7 ∷ 8 ∷ []) ≡ None ∷ None ∷ Some OutOfBounds ∷ []) × (row_scalar T 0 ≡ scalar stamps minus_one)
single_rows = (refl, refl, refl)
