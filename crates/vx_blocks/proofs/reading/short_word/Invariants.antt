use Rattle.std.proofs.Common.{◌≡◌, take}
use Rattle.vx_base.specs.Packed.{packed_number}
use Rattle.vx_blocks.proofs.reading.short_word.Given as goal

abbrev pub invariant-loop-i : goal.invariant-loop-i
invariant-loop-i l = l.word ≡ packed_number 8 (take l.i l.bytes)
