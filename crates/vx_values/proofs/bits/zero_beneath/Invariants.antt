use Rattle.std.proofs.Common.{◌≡◌, false, take}
use Rattle.vx_model.specs.Decoded.{zeroed}
use Rattle.vx_values.proofs.bits.zero_beneath.Given as goal

abbrev pub invariant-loop-row : goal.invariant-loop-row
invariant-loop-row l = l.bits ≡ zeroed false (take l.row l.mask) l.initial.bits
