use Rattle.std.proofs.Common.{◌≡◌, map, take}
use Rattle.vx_base.specs.PlainValue.{truth_or_false}
use Rattle.vx_base.specs.TypeOf.{value_of}
use Rattle.vx_flat.proofs.lists.truths.Given as goal

abbrev pub invariant-loop-value : goal.invariant-loop-value
invariant-loop-value l = l.bits.items ≡ map truth_or_false (map value_of (take l.value-index l.values))
