-- The functions that answer a truth value for each row: compare, between and not.
use Rattle.std.specs.Prelude.{Bool, true, false, not, ◌&&◌, ◌||◌, ◌==◌, if◌then◌else◌, map, length, zip, Option, None}
use Rattle.std.specs.declared.cmp.Ordering.{Ordering}
use Rattle.std.specs.Ordering.{is_eq, is_ne, is_lt, is_le, is_gt, is_ge}
use Rattle.vx_base.specs.declared.error.VortexError.{VortexError}
use Rattle.vx_base.specs.declared.error.VortexError.TheVariants.{MismatchedTypes, LengthMismatch}
use Rattle.vx_base.specs.Answers.{unless}
use Rattle.vx_base.specs.PlainType.{PlainType, is_flat, same_base, nullability_of, or_nullable}
use Rattle.vx_base.specs.PlainType as types
use Rattle.vx_base.specs.PlainValue.{PlainValue, null, truth, is_null, truth_or_false}
use Rattle.vx_model.specs.Column.{Column, column}
use Rattle.vx_rules.specs.declared.options.CompareOperator.{CompareOperator}
use Rattle.vx_rules.specs.declared.options.CompareOperator.TheVariants as ops
use Rattle.vx_rules.specs.declared.options.BetweenOptions.{BetweenOptions}
use Rattle.vx_rules.specs.ValueOrder.{value_cmp}

-- ---- compare

-- whether an operator holds of two values in this order
abbrev pub holds : CompareOperator → Ordering → Bool
holds ops.Eq o = is_eq o
holds ops.NotEq o = is_ne o
holds ops.Gt o = is_gt o
holds ops.Gte o = is_ge o
holds ops.Lt o = is_lt o
holds ops.Lte o = is_le o

-- whether the operator holds of two values; null where either is null, also of `null == null`
abbrev pub compared : CompareOperator → PlainValue → PlainValue → PlainValue
compared op v w = if is_null v || is_null w then null else truth (holds op (value_cmp v w))

-- the truth values of rows, null where either of two columns is null
abbrev pub truths_of : PlainType → PlainType → PlainType
truths_of s t = types.boolean (or_nullable (nullability_of s) (nullability_of t))

-- why a comparison is refused: MismatchedTypes unless both columns are of one flat type, up to nullability, then LengthMismatch unless
-- they have equal lengths
abbrev pub compare_refusal : Column → Column → Option VortexError
compare_refusal c d =
    unless (is_flat c.dtype && same_base c.dtype d.dtype) MismatchedTypes (unless (length c.values == length d.values) LengthMismatch None)

-- compare: row by row
abbrev pub comparison : CompareOperator → Column → Column → Column
comparison op c d = column (truths_of c.dtype d.dtype) (map (λ p. compared op p.0 p.1) (zip c.values d.values))

-- ---- between

-- the operator between a bound and what is within it
abbrev pub bound_operator : Bool → CompareOperator
bound_operator strict = if strict then ops.Lt else ops.Lte

-- whether low ≤ v ≤ high, with < for a strict bound; null where any of the three is null, even if the other bound excludes v
abbrev pub within_bounds : BetweenOptions → PlainValue → PlainValue → PlainValue → PlainValue
within_bounds options v low high =
    if is_null v || (is_null low || is_null high) then null
    else truth (holds (bound_operator options.lower_strict) (value_cmp low v) && holds (bound_operator options.upper_strict) (value_cmp v high))

-- why bounds are refused: as in a comparison, for both: the types first, and then the lengths
abbrev pub between_refusal : Column → Column → Column → Option VortexError
between_refusal c low high =
    unless (is_flat c.dtype && (same_base c.dtype low.dtype && same_base c.dtype high.dtype)) MismatchedTypes
    (unless (length c.values == length low.values && length c.values == length high.values) LengthMismatch None)

-- between: row by row
abbrev pub between : BetweenOptions → Column → Column → Column → Column
between options c low high =
    column (truths_of c.dtype (truths_of low.dtype high.dtype))
    (map (λ p. within_bounds options p.0 p.1.0 p.1.1) (zip c.values (zip low.values high.values)))

-- ---- not

-- whether the values are truth values
abbrev pub is_boolean : PlainType → Bool
is_boolean (types.boolean n) = true
is_boolean _ = false

-- why a negation is refused: MismatchedTypes unless the column is of truth values
abbrev pub not_refusal : Column → Option VortexError
not_refusal c = unless (is_boolean c.dtype) MismatchedTypes None

-- a truth value negated; null stays null
abbrev pub negated : PlainValue → PlainValue
negated v = if is_null v then null else truth (not (truth_or_false v))

-- not: row by row
abbrev pub negation : Column → Column
negation c = column c.dtype (map negated c.values)
