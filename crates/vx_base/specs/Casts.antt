-- What a cast of a scalar refuses.
use Rattle.std.specs.Prelude.{Bool, ◌&&◌, ◌||◌, Option, None}
use Rattle.vx_base.specs.declared.error.VortexError.{VortexError}
use Rattle.vx_base.specs.declared.error.VortexError.TheVariants.{MismatchedTypes, CastRefused}
use Rattle.vx_base.specs.Answers.{unless}
use Rattle.vx_base.specs.PlainScalar.{fits}
use Rattle.vx_base.specs.PlainType.{PlainType, is_integer, same_base}
use Rattle.vx_base.specs.PlainValue.{PlainValue}

-- whether there is a cast between the types: both are integer types, or they differ in outermost nullability alone
abbrev pub is_cast : PlainType → PlainType → Bool
is_cast s t = (is_integer s && is_integer t) || same_base s t

-- why a value isn't cast: the types come first, and then whether the value is one of the second type
abbrev pub cast_refusal : PlainType → PlainType → PlainValue → Option VortexError
cast_refusal s t value = unless (is_cast s t) MismatchedTypes (unless (fits t value) CastRefused None)
