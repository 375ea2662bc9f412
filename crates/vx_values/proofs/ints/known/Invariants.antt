use Rattle.std.proofs.Common.{◌≡◌, true, map, take}
use Rattle.std.specs.List.{list_all}
use Rattle.vx_base.specs.Integers.{lies_in}
use Rattle.vx_values.proofs.ints.known.Given as goal

abbrev pub invariant-loop-item : goal.invariant-loop-item
invariant-loop-item g l = list_all (lies_in g.T.Integer.kind) (map g.T.Integer.whole (take l.item-index l.items)) ≡ true
