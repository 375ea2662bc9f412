-- Worked lists of operations with a query, so that a wrong rule in the definitions does not check.
use Rattle.std.specs.Prelude.{◌≡◌, negsuc, true, false, List, [], ◌∷◌, Some, Ok, Err, refl}
use Rattle.vx_base.specs.declared.dtype.Nullability.TheVariants.{Nullable}
use Rattle.vx_base.specs.declared.error.VortexError.TheVariants.{MismatchedTypes, LengthMismatch, OutOfBounds}
use Rattle.vx_base.specs.declared.ptype.PType.TheVariants.{U8, U64, I64}
use Rattle.vx_base.specs.PlainScalar.{PlainScalar, scalar}
use Rattle.vx_base.specs.PlainType as types
use Rattle.vx_base.specs.PlainValue.{PlainValue, null, int}
use Rattle.vx_model.specs.Column.{Column, column}
use Rattle.vx_rules.specs.declared.options.CompareOperator.TheVariants.{Gt, Gte, Lt}
use Rattle.vx_rules.specs.Operations.{PlainOp, slice, filter, take, mask, cast, fill_null, compare, between, negate, is_constant, min_max, null_count, sum, row, rows, of_column, one, pair, yes, count, answered, all_answered}
use Rattle.vx_rules.proofs.Samples.{S, i32, maybe_bools, maybe_i32, minus_one, seconds, stamps, truths, u8, whole, wholes}

-- 3, 1, 2 as u8
abbrev three_rows : Column
three_rows = column u8 (wholes (3 ∷ 1 ∷ 2 ∷ []))

-- >= 2, which is asked in the nullable form of the column's type; the sum; and rows 1 and 2
pub three_queries :
    (answered (compare Gte (scalar (types.primitive U8 Nullable) (whole 2))) three_rows ≡ Ok (of_column (maybe_bools (truths (true ∷ false ∷ true ∷ [])))))
    × (answered sum three_rows ≡ Ok (one (scalar (types.primitive U64 Nullable) (whole 6)))) × (all_answered (slice 1 3 ∷ []) rows three_rows ≡ Ok (of_column (column u8 (wholes (1 ∷ 2 ∷ [])))))
    × (all_answered (slice 0 9 ∷ []) rows three_rows ≡ Err OutOfBounds)
three_queries = (refl, refl, refl, refl)

-- 5, null, 7: one null; filled with 0, the sum is 12, least and greatest 0 and 7, and integers have no negation
pub filled_queries :
    let c : Column = column maybe_i32 (whole 5 ∷ null ∷ whole 7 ∷ []) in
    let filled : List PlainOp = fill_null (scalar i32 (whole 0)) ∷ [] in
    (answered null_count c ≡ Ok (count 1)) × (all_answered filled sum c ≡ Ok (one (scalar (types.primitive I64 Nullable) (whole 12))))
    × (all_answered filled min_max c ≡ Ok (pair (Some (scalar i32 (whole 0), scalar i32 (whole 7))))) × (all_answered filled negate c ≡ Err MismatchedTypes)
filled_queries = (refl, refl, refl, refl)

-- -1 and 86400 seconds: below 0, between -1 and 0, above the least 64-bit integer
pub stamp_queries :
    let c : Column = column stamps (minus_one ∷ whole 86_400 ∷ []) in
    let stamp : PlainValue → PlainScalar = scalar (types.timestamp seconds Nullable) in
    (answered (compare Lt (stamp (whole 0))) c ≡ Ok (of_column (maybe_bools (truths (true ∷ false ∷ [])))))
    × (answered (between (stamp minus_one) (stamp (whole 0)) (record { lower_strict = false; upper_strict = false })) c ≡ Ok (of_column (maybe_bools (truths (true ∷ false ∷ [])))))
    × (answered (compare Gt (stamp (int (negsuc 9_223_372_036_854_775_807)))) c ≡ Ok (of_column (maybe_bools (truths (true ∷ true ∷ [])))))
    × (answered rows c ≡ Ok (of_column c))
stamp_queries = (refl, refl, refl, refl)

-- each operation is of what the one before left, and the first refusal is the answer
pub chains :
    (all_answered (slice 1 6 ∷ filter (true ∷ false ∷ true ∷ false ∷ true ∷ []) ∷ take (column u8 (wholes (2 ∷ 0 ∷ []))) ∷ []) rows S ≡ Ok (of_column (column i32 (wholes (30 ∷ 10 ∷ [])))))
    × (all_answered (slice 1 6 ∷ filter (true ∷ []) ∷ slice 9 9 ∷ []) negate S ≡ Err LengthMismatch)
    × (all_answered (slice 0 2 ∷ mask (true ∷ false ∷ []) ∷ cast (types.primitive U8 Nullable) ∷ []) rows S ≡ Ok (of_column (column (types.primitive U8 Nullable) (whole 1 ∷ null ∷ []))))
    × (all_answered (slice 2 3 ∷ []) is_constant S ≡ Ok (yes true))
chains = (refl, refl, refl, refl)

-- row 3, and no row 8
pub row_queries : (answered (row 3) S ≡ Ok (one (scalar i32 (whole 20)))) × (answered (row 8) S ≡ Err OutOfBounds)
row_queries = (refl, refl)
