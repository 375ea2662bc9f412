use Rattle.std.proofs.Common.{◌≡◌, take}
use Rattle.std.specs.List.{list_all}
use Rattle.vx_base.proofs.mask.each_true.Given as goal

abbrev pub invariant-loop-bit : goal.invariant-loop-bit
invariant-loop-bit l = l.all ≡ list_all (λ bit. bit) (take l.bit-index l.bits)
