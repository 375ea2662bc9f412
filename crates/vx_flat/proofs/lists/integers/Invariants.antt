use Rattle.std.proofs.Common.{◌≡◌, map, take}
use Rattle.vx_base.specs.PlainValue.{whole_or_zero}
use Rattle.vx_base.specs.TypeOf.{value_of}
use Rattle.vx_flat.proofs.lists.integers.Given as goal

abbrev pub invariant-loop-value : goal.invariant-loop-value
invariant-loop-value g l = map g.T.Integer.whole l.list.items ≡ map whole_or_zero (map value_of (take l.value-index l.values))
