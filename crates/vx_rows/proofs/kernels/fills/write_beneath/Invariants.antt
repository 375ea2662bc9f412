use Rattle.std.proofs.Common.{◌≡◌, map, take}
use Rattle.vx_model.specs.Decoded.{zeroed}
use Rattle.vx_rows.proofs.kernels.fills.write_beneath.Given as goal

abbrev pub invariant-loop-row : goal.invariant-loop-row
invariant-loop-row g l = map g.T.Integer.whole l.items ≡ zeroed (g.T.Integer.whole l.fill) (take l.row l.mask) (map g.T.Integer.whole l.initial.items)
