use Rattle.std.proofs.Common.{◌≡◌, map, take}
use Rattle.vx_buffers.specs.Given.{is_set}
use Rattle.vx_buffers.proofs.validity.truths.Given as goal

abbrev pub invariant-loop-row : goal.invariant-loop-row
invariant-loop-row l = l.bits.items ≡ map is_set (take l.row l.bytes)
