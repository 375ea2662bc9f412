-- The functions that answer one value of a column: is_constant, min_max, null_count and sum.
use Rattle.std.specs.Prelude.{ℕ, ℤ, pos, Bool, false, not, ◌||◌, if◌then◌else◌, List, [], ◌∷◌, map, filter, count_by, Option, None, Some}
use Rattle.std.specs.List.{list_all, reduce}
use Rattle.std.specs.Ordering.{ord_min, ord_max}
use Rattle.vx_base.specs.declared.error.VortexError.{VortexError}
use Rattle.vx_base.specs.declared.error.VortexError.TheVariants.{MismatchedTypes}
use Rattle.vx_base.specs.declared.dtype.Nullability.TheVariants.{Nullable}
use Rattle.vx_base.specs.declared.ptype.PType.{PType}
use Rattle.vx_base.specs.declared.ptype.PType.TheVariants.{U64, I64}
use Rattle.vx_base.specs.Answers.{unless}
use Rattle.vx_base.specs.Integers.{lies_in, is_signed}
use Rattle.vx_base.specs.PlainScalar.{PlainScalar, scalar}
use Rattle.vx_base.specs.PlainType.{PlainType, is_flat, is_integer, integer_of}
use Rattle.vx_base.specs.PlainType as types
use Rattle.vx_base.specs.PlainValue.{PlainValue, null, truth, int, is_null, same_value}
use Rattle.vx_base.specs.Undelta.{total}
use Rattle.vx_model.specs.Column.{Column}
use Rattle.vx_rules.specs.Comparisons.{is_boolean}
use Rattle.vx_rules.specs.ValueOrder.{value_cmp}

-- ---- null_count

-- the number of nulls
abbrev pub null_count : Column → ℕ
null_count c = count_by is_null c.values

-- ---- is_constant

-- whether there is a value, and all are equal; null is equal to null
abbrev pub all_equal : List PlainValue → Bool
all_equal [] = false
all_equal (v ∷ vs) = list_all (same_value v) vs

-- is_constant: of every type; no rows are not constant
abbrev pub is_constant : Column → Bool
is_constant c = all_equal c.values

-- ---- min_max

-- the values other than null
abbrev pub valid_values : List PlainValue → List PlainValue
valid_values vs = filter (λ v. not (is_null v)) vs

-- the least of values, None without one
abbrev pub least : List PlainValue → Option PlainValue
least vs = reduce (ord_min value_cmp) vs

-- the greatest of values, None without one
abbrev pub greatest : List PlainValue → Option PlainValue
greatest vs = reduce (ord_max value_cmp) vs

-- two values of one type, where both are there
abbrev pub scalar_pair : PlainType → Option PlainValue → Option PlainValue → Option (PlainScalar × PlainScalar)
scalar_pair t (Some v) (Some w) = Some (scalar t v, scalar t w)
scalar_pair t _ _ = None

-- why least and greatest are refused: MismatchedTypes unless the type is flat; values with others within have no order
abbrev pub min_max_refusal : Column → Option VortexError
min_max_refusal c = unless (is_flat c.dtype) MismatchedTypes None

-- min_max: the least and the greatest valid value, None without one
abbrev pub min_max : Column → Option (PlainScalar × PlainScalar)
min_max c = scalar_pair c.dtype (least (valid_values c.values)) (greatest (valid_values c.values))

-- ---- sum

-- what a value adds: 1 for true, an integer itself, 0 for false and for null
abbrev pub summand : PlainValue → ℤ
summand (truth b) = if b then pos 1 else pos 0
summand (int z) = z
summand _ = pos 0

-- the type of a sum: i64 of signed integers, u64 of unsigned ones and of truth values
abbrev pub sum_ptype : PlainType → PType
sum_ptype t = if is_signed (integer_of t) then I64 else U64

-- why a sum is refused: MismatchedTypes unless the column is of truth values or integers
abbrev pub sum_refusal : Column → Option VortexError
sum_refusal c = unless (is_boolean c.dtype || is_integer c.dtype) MismatchedTypes None

-- a whole number as a value of a type, null where it is out of range
abbrev pub or_null : PType → ℤ → PlainValue
or_null p z = if lies_in p z then int z else null

-- sum: exact, and only then tested for its range, so that it doesn't depend on the order of rows
abbrev pub sum : Column → PlainScalar
sum c = let p = sum_ptype c.dtype in scalar (types.primitive p Nullable) (or_null p (total (map summand c.values)))
