use Rattle.std.proofs.Common.{◌≡◌, take}
use Rattle.vx_base.specs.Masks.{true_count}
use Rattle.vx_sparse.proofs.kernels.kept_patches.trues.Given as goal

abbrev pub invariant-loop-bit : goal.invariant-loop-bit
invariant-loop-bit l = l.count ≡ true_count (take l.bit-index l.bits)
