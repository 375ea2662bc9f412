use Rattle.std.proofs.Common.{◌≡◌, ◌≤◌, ◌<◌, ℕ, true, false, get_or}
use Rattle.vx_blocks.proofs.deltas.are_valid.Given as goal

abbrev pub invariant-loop-i : goal.invariant-loop-i
invariant-loop-i l = l.all ≡ true → (k : ℕ) → l.start ≤ k → k < l.i → get_or l.valid k false ≡ true
