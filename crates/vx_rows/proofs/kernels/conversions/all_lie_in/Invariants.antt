use Rattle.std.proofs.Common.{◌≡◌, map, take}
use Rattle.std.specs.List.{list_all}
use Rattle.vx_base.specs.Integers.{lies_in}
use Rattle.vx_rows.proofs.kernels.conversions.all_lie_in.Given as goal

abbrev pub invariant-loop-row : goal.invariant-loop-row
invariant-loop-row g l = l.all ≡ list_all (lies_in l.ptype) (map g.T.Integer.whole (take l.row l.items))
