use Rattle.std.proofs.Common.{◌≡◌, map, take, pos}
use Rattle.vx_model.specs.Decoded.{zeroed}
use Rattle.vx_values.proofs.ints.zeroing.zero_beneath.Given as goal

abbrev pub invariant-loop-row : goal.invariant-loop-row
invariant-loop-row g l = map g.T.Integer.whole l.items ≡ zeroed (pos 0) (take l.row l.bits) (map g.T.Integer.whole l.initial.items)
