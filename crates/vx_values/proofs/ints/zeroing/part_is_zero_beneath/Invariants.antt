use Rattle.std.proofs.Common.{◌≡◌, map, take}
use Rattle.vx_model.specs.Decoded.{zero_beneath, is_zero}
use Rattle.vx_values.proofs.ints.zeroing.part_is_zero_beneath.Given as goal

abbrev pub invariant-loop-row : goal.invariant-loop-row
invariant-loop-row g l = l.all ≡ zero_beneath is_zero (take l.row l.bits) (map g.T.Integer.whole l.items)
