use Rattle.std.proofs.Common.{◌≡◌, map, take}
use Rattle.vx_base.specs.TypeOf.{value_of}
use Rattle.vx_base.proofs.value.+copy.Given as goal

abbrev pub invariant-Values::copy-loop-value : goal.invariant-Values::copy-loop-value
invariant-Values::copy-loop-value l = map value_of l.items.items ≡ map value_of (take l.value-index l.value-items)
