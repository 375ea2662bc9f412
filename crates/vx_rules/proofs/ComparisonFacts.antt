-- Worked comparisons, so that a wrong rule in the definitions does not check.
use Rattle.std.specs.Prelude.{◌≡◌, negsuc, Bool, true, false, List, [], ◌∷◌, map, Option, None, Some, refl}
use Rattle.vx_base.specs.declared.dtype.Nullability.TheVariants.{NonNullable, Nullable}
use Rattle.vx_base.specs.declared.error.VortexError.{VortexError}
use Rattle.vx_base.specs.declared.error.VortexError.TheVariants.{MismatchedTypes, LengthMismatch}
use Rattle.vx_base.specs.declared.ptype.PType.TheVariants.{I64}
use Rattle.vx_base.specs.PlainType.{PlainType}
use Rattle.vx_base.specs.PlainType as types
use Rattle.vx_base.specs.PlainValue.{PlainValue, null, truth, int, bytes}
use Rattle.vx_model.specs.Column.{Column, column}
use Rattle.vx_rules.specs.declared.options.BetweenOptions.{BetweenOptions}
use Rattle.vx_rules.specs.declared.options.CompareOperator.TheVariants.{Eq, NotEq, Gt, Gte, Lt, Lte}
use Rattle.vx_rules.specs.Comparisons.{compared, compare_refusal, comparison, within_bounds, between_refusal, between, not_refusal, negation}
use Rattle.vx_rules.proofs.Samples.{S, T, all_rows, bools, day_starts, i32, lists, maybe_bools, maybe_i32, minus_one, seconds, stamps, text, truths, u8, whole, wholes}

-- ---- compare

abbrev all_operators : PlainValue → PlainValue → List PlainValue
all_operators v w = map (λ op. compared op v w) (Eq ∷ NotEq ∷ Gt ∷ Gte ∷ Lt ∷ Lte ∷ [])

-- false is below true, -1 below 0, a prefix below the longer text, and the byte 0x7f below 0xff
pub orders :
    (all_operators (truth false) (truth true) ≡ truths (false ∷ true ∷ false ∷ false ∷ true ∷ true ∷ []))
    × (all_operators minus_one (whole 0) ≡ truths (false ∷ true ∷ false ∷ false ∷ true ∷ true ∷ []))
    × (all_operators (whole 7) (whole 7) ≡ truths (true ∷ false ∷ false ∷ true ∷ false ∷ true ∷ []))
    × (all_operators (bytes (97 ∷ 98 ∷ [])) (bytes (97 ∷ [])) ≡ truths (false ∷ true ∷ true ∷ true ∷ false ∷ false ∷ []))
    × (all_operators (bytes (0x7f ∷ 0x00 ∷ [])) (bytes (0xff ∷ [])) ≡ truths (false ∷ true ∷ false ∷ false ∷ true ∷ true ∷ []))
orders = (refl, refl, refl, refl, refl)

-- null is neither equal to null nor below anything
pub of_null : (compared Eq null null ≡ null) × (compared Lt null (whole 0) ≡ null) × (compared NotEq (whole 0) null ≡ null)
of_null = (refl, refl, refl)

pub comparisons :
    (comparison Gt S (all_rows i32 (whole 5) 8) ≡ bools (truths (false ∷ true ∷ false ∷ true ∷ false ∷ true ∷ false ∷ false ∷ [])))
    × (comparison Lt T (all_rows stamps (whole 0) 2) ≡ bools (truths (true ∷ false ∷ [])))
    × (comparison Gt T (all_rows stamps (int (negsuc 9_223_372_036_854_775_807)) 2) ≡ bools (truths (true ∷ true ∷ [])))
    × (comparison Gte (column u8 (wholes (3 ∷ 1 ∷ 2 ∷ []))) (all_rows u8 (whole 2) 3) ≡ bools (truths (true ∷ false ∷ true ∷ [])))
comparisons = (refl, refl, refl, refl)

-- nullable where either column is, whether or not there is a null
pub nullable_comparisons :
    (comparison Lte day_starts (all_rows (types.timestamp seconds Nullable) (whole 86_400) 3) ≡ maybe_bools (truths (true ∷ true ∷ false ∷ [])))
    × (comparison Eq (column maybe_i32 (whole 1 ∷ null ∷ [])) (column i32 (wholes (1 ∷ 1 ∷ []))) ≡ maybe_bools (truth true ∷ null ∷ []))
nullable_comparisons = (refl, refl)

-- one column of timestamps and another one, row by row
pub stamp_comparisons :
    (comparison Eq (column stamps (whole 86_400 ∷ [])) (column stamps (whole 86_400 ∷ [])) ≡ bools (truth true ∷ []))
    × (comparison Eq (column stamps (whole 86_400 ∷ [])) (column stamps (whole 0 ∷ [])) ≡ bools (truth false ∷ []))
stamp_comparisons = (refl, refl)

abbrev against : Column → PlainType → Option VortexError
against c t = compare_refusal c (column t [])

-- an i32 is compared with an i32, nullable or not, and with no i64; lists and nulls with nothing; types come before lengths
pub refused_comparisons :
    (map (against (column i32 [])) (i32 ∷ maybe_i32 ∷ types.primitive I64 NonNullable ∷ types.boolean NonNullable ∷ []) ≡ None ∷ None ∷ Some MismatchedTypes ∷ Some MismatchedTypes ∷ [])
    × (against (column lists []) lists ≡ Some MismatchedTypes) × (against (column types.null_type []) types.null_type ≡ Some MismatchedTypes)
    × (against (column text []) (types.binary NonNullable) ≡ Some MismatchedTypes)
    × (against S i32 ≡ Some LengthMismatch) × (against S text ≡ Some MismatchedTypes)
refused_comparisons = (refl, refl, refl, refl, refl, refl)

-- ---- between

abbrev bounds : Bool → Bool → BetweenOptions
bounds lower upper = record { lower_strict = lower; upper_strict = upper }

pub ranges :
    (between (bounds false false) S (all_rows i32 (whole 1) 8) (all_rows i32 (whole 20) 8) ≡ bools (truths (true ∷ true ∷ true ∷ true ∷ true ∷ false ∷ true ∷ true ∷ [])))
    × (between (bounds false false) T (all_rows stamps minus_one 2) (all_rows stamps (whole 0) 2) ≡ bools (truths (true ∷ false ∷ [])))
ranges = (refl, refl)

abbrev between_1_and_3 : Bool → Bool → List PlainValue
between_1_and_3 lower upper = map (λ v. within_bounds (bounds lower upper) v (whole 1) (whole 3)) (wholes (0 ∷ 1 ∷ 2 ∷ 3 ∷ 4 ∷ []))

-- 0 to 4 between 1 and 3, where neither, one or both bounds are strict
pub strict_bounds :
    (between_1_and_3 false false ≡ truths (false ∷ true ∷ true ∷ true ∷ false ∷ [])) × (between_1_and_3 true false ≡ truths (false ∷ false ∷ true ∷ true ∷ false ∷ []))
    × (between_1_and_3 false true ≡ truths (false ∷ true ∷ true ∷ false ∷ false ∷ [])) × (between_1_and_3 true true ≡ truths (false ∷ false ∷ true ∷ false ∷ false ∷ []))
strict_bounds = (refl, refl, refl, refl)

-- 0 is below 1 whatever the upper bound is, and still not compared with a null; nothing is between bounds that fall
pub ranges_of_null :
    (within_bounds (bounds false false) (whole 0) (whole 1) null ≡ null) × (within_bounds (bounds false false) null (whole 1) (whole 3) ≡ null)
    × (within_bounds (bounds false false) (whole 2) (whole 3) (whole 1) ≡ truth false)
ranges_of_null = (refl, refl, refl)

-- nullable where one bound is
pub nullable_range :
    between (bounds false false) (column i32 (whole 2 ∷ [])) (column i32 (whole 1 ∷ [])) (column maybe_i32 (whole 3 ∷ [])) ≡ maybe_bools (truth true ∷ [])
nullable_range = refl

-- each bound has the column's type and length
pub refused_ranges :
    (between_refusal S (all_rows i32 (whole 1) 8) (all_rows maybe_i32 null 8) ≡ None) × (between_refusal S (all_rows i32 (whole 1) 8) (all_rows i32 (whole 1) 7) ≡ Some LengthMismatch)
    × (between_refusal S (all_rows i32 (whole 1) 7) (all_rows i32 (whole 1) 8) ≡ Some LengthMismatch)
    × (between_refusal S (all_rows text null 7) (all_rows i32 (whole 1) 7) ≡ Some MismatchedTypes) × (between_refusal S (all_rows i32 (whole 1) 8) (all_rows text null 8) ≡ Some MismatchedTypes)
    × (between_refusal (column lists []) (column lists []) (column lists []) ≡ Some MismatchedTypes)
refused_ranges = (refl, refl, refl, refl, refl, refl)

-- ---- not

pub negations : negation (maybe_bools (truth true ∷ null ∷ truth false ∷ [])) ≡ maybe_bools (truth false ∷ null ∷ truth true ∷ [])
negations = refl

pub refused_negations : (not_refusal S ≡ Some MismatchedTypes) × (not_refusal (bools []) ≡ None) × (not_refusal (column types.null_type []) ≡ Some MismatchedTypes)
refused_negations = (refl, refl, refl)
