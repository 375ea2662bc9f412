use Rattle.std.proofs.Common.{◌≡◌}
use Rattle.vx_buffers.specs.Given.{bits_from}
use Rattle.vx_buffers.proofs.validity.bits_from.Given as goal

abbrev pub invariant-loop-row : goal.invariant-loop-row
invariant-loop-row l = l.bits.items ≡ bits_from l.bytes l.offset l.row
