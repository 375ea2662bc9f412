-- Truth values that may be missing, as values.
use Rattle.std.specs.Prelude.{Bool, Option, None, Some}
use Rattle.vx_base.specs.PlainValue.{PlainValue, null, truth}

-- a truth value, null of None
abbrev pub truth_or_null : Option Bool → PlainValue
truth_or_null None = null
truth_or_null (Some b) = truth b
