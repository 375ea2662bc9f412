use Rattle.std.proofs.Common.{◌≡◌, take}
use Rattle.std.specs.Prelude.{not}
use Rattle.vx_model.specs.Decoded.{zero_beneath}
use Rattle.vx_values.proofs.bits.part_is_zero_beneath.Given as goal

abbrev pub invariant-loop-row : goal.invariant-loop-row
invariant-loop-row l = l.all ≡ zero_beneath not (take l.row l.mask) l.bits
