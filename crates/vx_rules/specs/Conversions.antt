-- The functions that keep values and change their type: cast and fill_null.
use Rattle.std.specs.Prelude.{not, ◌&&◌, map, Option, None}
use Rattle.std.specs.List.{list_all}
use Rattle.vx_base.specs.declared.error.VortexError.{VortexError}
use Rattle.vx_base.specs.declared.error.VortexError.TheVariants.{MismatchedTypes, CastRefused}
use Rattle.vx_base.specs.Answers.{unless}
use Rattle.vx_base.specs.Casts.{is_cast}
use Rattle.vx_base.specs.Defaults.{or_default}
use Rattle.vx_base.specs.PlainScalar.{PlainScalar, fits}
use Rattle.vx_base.specs.PlainType.{PlainType, same_base}
use Rattle.vx_base.specs.PlainValue.{is_null}
use Rattle.vx_model.specs.Column.{Column, column}

-- why a cast is refused: MismatchedTypes unless both are integer types or they differ in outermost nullability alone, then CastRefused
-- unless each value is one of the new type: no integer wraps, and no null becomes a value
abbrev pub cast_refusal : Column → PlainType → Option VortexError
cast_refusal c t = unless (is_cast c.dtype t) MismatchedTypes (unless (list_all (fits t) c.values) CastRefused None)

-- cast: the same values, of the new type
abbrev pub casted : Column → PlainType → Column
casted c t = column t c.values

-- why a fill is refused: MismatchedTypes unless it has the column's type, up to outermost nullability, and isn't null
abbrev pub fill_null_refusal : Column → PlainScalar → Option VortexError
fill_null_refusal c fill = unless (same_base c.dtype fill.dtype && not (is_null fill.value)) MismatchedTypes None

-- fill_null: the fill in place of each null. The type is the fill's: of a non-nullable fill it is non-nullable, since no null is left
abbrev pub null_filled : Column → PlainScalar → Column
null_filled c fill = column fill.dtype (map (or_default fill.value) c.values)
