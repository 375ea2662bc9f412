use Rattle.std.proofs.Common.{◌≡◌, map, drop}
use Rattle.vx_base.specs.PlainValue.{list_has_short, list_count, value_count}
use Rattle.vx_base.specs.TypeOf.{value_of}
use Rattle.vx_base.proofs.scalar.fitting.+short.Given as goal

abbrev pub decreases-has_short : goal.decreases-has_short
decreases-has_short l = value_count (value_of l.value.now)

abbrev pub decreases-have_short : goal.decreases-have_short
decreases-have_short l = list_count l.values.now

-- what is left decides
abbrev pub invariant-have_short-loop-value : goal.invariant-have_short-loop-value
invariant-have_short-loop-value l = list_has_short (map value_of (drop l.value-index l.value-items)) ≡ list_has_short l.values
