-- Timestamps split into columns of parts: why a column isn't split, and each part.
use Rattle.std.specs.Prelude.{◌||◌, ℤ, pos, Bool, int_lt, if◌then◌else◌, List, length, map, unwrap_or, is_some, Option, Some, None}
use Rattle.std.specs.List.{list_all}
use Rattle.vx_base.specs.Answers.{unless}
use Rattle.vx_base.specs.declared.dtype.Nullability.{Nullability}
use Rattle.vx_base.specs.declared.dtype.Nullability.TheVariants.{NonNullable}
use Rattle.vx_base.specs.declared.error.VortexError.{VortexError}
use Rattle.vx_base.specs.declared.error.VortexError.TheVariants.{DaysOutOfRange, MismatchedTypes}
use Rattle.vx_base.specs.declared.ptype.PType.TheVariants.{I32}
use Rattle.vx_base.specs.declared.timestamp.TimeUnit.{TimeUnit}
use Rattle.vx_base.specs.declared.timestamp.TimeUnit.TheVariants.{Days}
use Rattle.vx_base.specs.PlainScalar.{scalar}
use Rattle.vx_base.specs.PlainType.{PlainType}
use Rattle.vx_base.specs.PlainType as types
use Rattle.vx_base.specs.PlainValue.{PlainValue, null, int, is_null, whole_or_zero}
use Rattle.vx_model.specs.Column.{Column, column}
use Rattle.vx_model.specs.Plain.{plain}
use Rattle.vx_model.specs.Rows.{each_int}
use Rattle.vx_model.specs.Tree.{Tree, constant}
use Rattle.vx_time.specs.PartsOf.{units_per_second}
use Rattle.vx_temporal.specs.SplitRows.{day_in, subsecond_in, has_day}

-- the unit of a timestamp type, None of any other
abbrev pub unit_in : PlainType → Option TimeUnit
unit_in (types.timestamp k n) = Some k.unit
unit_in _ = None

-- how many units of a timestamp type make a second; 0 of any other type
abbrev pub divisor_in : PlainType → ℤ
divisor_in t = units_per_second (unwrap_or (unit_in t) Days)

-- whether a value is null, or its day fits 32 signed bits
abbrev pub day_fits : ℤ → PlainValue → Bool
day_fits d v = is_null v || has_day d (whole_or_zero v)

-- why columns of a type aren't split: it isn't one of timestamps
abbrev pub type_refusal : PlainType → Option VortexError
type_refusal t = unless (is_some (unit_in t)) MismatchedTypes None

-- why a column isn't split: its type, or the day of some row that isn't null doesn't fit
abbrev pub split_refusal : Column → Option VortexError
split_refusal c = unless (is_some (unit_in c.dtype)) MismatchedTypes (unless (list_all (day_fits (divisor_in c.dtype)) c.values) DaysOutOfRange None)

-- a part of a value's timestamp, 0 of null
abbrev pub or_zero : (ℤ → ℤ) → PlainValue → PlainValue
or_zero part null = int (pos 0)
or_zero part v = int (part (whole_or_zero v))

-- the days, null where the values are
abbrev pub days_of : ℤ → Nullability → List PlainValue → Column
days_of d n vs = column (types.primitive I32 n) (map (each_int (day_in d)) vs)

-- a part other than the days
abbrev pub others_of : (ℤ → ℤ) → List PlainValue → Column
others_of part vs = column (types.primitive I32 NonNullable) (map (or_zero part) vs)

-- the subseconds: a Constant 0 where a unit is a second
abbrev pub subseconds_tree : ℤ → List PlainValue → Tree
subseconds_tree d vs =
    if int_lt (pos 1) d then plain (others_of (subsecond_in d) vs)
    else constant (scalar (types.primitive I32 NonNullable) (int (pos 0))) (length vs)
