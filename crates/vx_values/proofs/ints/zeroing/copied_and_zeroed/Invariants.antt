use Rattle.std.proofs.Common.{◌≡◌, ◌-◌, length, map, take, pos}
use Rattle.vx_model.specs.Decoded.{zeroed}
use Rattle.vx_values.proofs.ints.zeroing.copied_and_zeroed.Given as goal

abbrev pub invariant-loop-start : goal.invariant-loop-start
invariant-loop-start g l = map g.T.Integer.whole l.copy.items ≡ zeroed (pos 0) (take l.start l.bits) (take l.start (map g.T.Integer.whole l.items))

abbrev pub decreases-loop-start : goal.decreases-loop-start
decreases-loop-start g l = length l.items - l.start
