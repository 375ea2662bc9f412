use Rattle.std.proofs.Common.{◌≡◌, ◌-◌, true, length, map, take}
use Rattle.vx_model.specs.Decoded.{zero_beneath, is_zero}
use Rattle.vx_values.proofs.ints.zeroing.is_zero_beneath.Given as goal

abbrev pub invariant-loop-start : goal.invariant-loop-start
invariant-loop-start g l = zero_beneath is_zero (take l.start l.bits) (map g.T.Integer.whole l.items) ≡ true

abbrev pub decreases-loop-start : goal.decreases-loop-start
decreases-loop-start g l = length l.bits - l.start
