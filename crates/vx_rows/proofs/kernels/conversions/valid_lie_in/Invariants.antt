use Rattle.std.proofs.Common.{◌≡◌, map, take}
use Rattle.vx_rows.specs.Conversions.{masked_in}
use Rattle.vx_rows.proofs.kernels.conversions.valid_lie_in.Given as goal

abbrev pub invariant-loop-row : goal.invariant-loop-row
invariant-loop-row g l = l.all ≡ masked_in l.ptype (take l.row l.mask) (take l.row (map g.T.Integer.whole l.items))
