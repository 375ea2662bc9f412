use Rattle.std.proofs.Common.{◌≡◌, ◌-◌, true, length, take}
use Rattle.std.specs.Prelude.{not}
use Rattle.vx_model.specs.Decoded.{zero_beneath}
use Rattle.vx_values.proofs.bits.are_zero_beneath.Given as goal

abbrev pub invariant-loop-start : goal.invariant-loop-start
invariant-loop-start l = zero_beneath not (take l.start l.mask) l.bits ≡ true

abbrev pub decreases-loop-start : goal.decreases-loop-start
decreases-loop-start l = length l.mask - l.start
