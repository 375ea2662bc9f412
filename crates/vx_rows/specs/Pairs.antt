-- Rows of two or three columns side by side.
use Rattle.std.specs.Prelude.{ℕ, ℤ, Bool, ◌&&◌, ◌||◌, if◌then◌else◌, List, map, zip, None, Some}
use Rattle.std.specs.Cmp.Lexicographic.{slice_cmp}
use Rattle.std.specs.Ordering.{int_cmp, nat_cmp}
use Rattle.vx_base.specs.PlainType.{PlainType, is_flat, same_base}
use Rattle.vx_base.specs.PlainValue.{PlainValue, null, truth, is_null, truth_or_false}
use Rattle.vx_model.specs.Tree.{Validity}
use Rattle.vx_rules.specs.declared.options.BetweenOptions.{BetweenOptions}
use Rattle.vx_rules.specs.declared.options.CompareOperator.{CompareOperator}
use Rattle.vx_rules.specs.declared.options.CompareOperator.TheVariants as ops
use Rattle.vx_rules.specs.Comparisons.{bound_operator, compared, holds, within_bounds}

-- whether values of two types are compared: they are of one flat type, up to nullability
abbrev pub are_comparable : PlainType → PlainType → Bool
are_comparable s t = is_flat s && same_base s t

-- whether values of a type are compared with those of two others
abbrev pub are_within_types : PlainType → PlainType → PlainType → Bool
are_within_types s t u = is_flat s && (same_base s t && same_base s u)

-- an answer for each row of two lists
abbrev pub each_pair : {A B C : Type 0} → (A → B → C) → List A → List B → List C
each_pair f xs ys = map (λ p. f p.0 p.1) (zip xs ys)

-- the rows that are valid in both
abbrev pub both_valid : Validity → Validity → Validity
both_valid None valid = valid
both_valid (Some bits) None = Some bits
both_valid (Some bits) (Some others) = Some (each_pair (λ a b. a && b) bits others)

-- whether an operator holds, row by row of two columns
abbrev pub compared_rows : CompareOperator → List PlainValue → List PlainValue → List PlainValue
compared_rows operator lefts rights = each_pair (compared operator) lefts rights

-- the operator that holds of two values exchanged
abbrev pub turned : CompareOperator → CompareOperator
turned ops.Gt = ops.Lt
turned ops.Gte = ops.Lte
turned ops.Lt = ops.Gt
turned ops.Lte = ops.Gte
turned operator = operator

-- whether two truth values are true, null where either is null
abbrev pub both_true : PlainValue → PlainValue → PlainValue
both_true v w = if is_null v || is_null w then null else truth (truth_or_false v && truth_or_false w)

-- whether each row lies within its bounds, row by row of three columns
abbrev pub rows_within : BetweenOptions → List PlainValue → List PlainValue → List PlainValue → List PlainValue
rows_within options rows lows highs = map (λ p. within_bounds options p.0 p.1.0 p.1.1) (zip rows (zip lows highs))

-- whether an operator holds between a number and another one
abbrev pub whole_holds : CompareOperator → ℤ → ℤ → Bool
whole_holds operator w z = holds operator (int_cmp z w)

-- whether an operator holds between the bytes of a value and other ones
abbrev pub bytes_hold : CompareOperator → List ℕ → List ℕ → Bool
bytes_hold operator value row = holds operator (slice_cmp nat_cmp row value)

-- whether a number lies between two others, each bound strict or not
abbrev pub whole_within : BetweenOptions → ℤ → ℤ → ℤ → Bool
whole_within options low high z = holds (bound_operator options.lower_strict) (int_cmp low z) && holds (bound_operator options.upper_strict) (int_cmp z high)
