use Rattle.std.proofs.Common.{◌≡◌, ◌<◌, ◌≤◌, ◌+◌, ℕ, get_or, sum, take}
use Rattle.vx_values.proofs.ints.difference_blocks.add_counts.Given as goal

abbrev pub invariant-loop-w : goal.invariant-loop-w
invariant-loop-w l = record {
  done : (j : ℕ) → j < l.w → get_or l.counts j 0 ≡ get_or l.initial.counts j 0 + get_or l.more j 0;
  left : (j : ℕ) → l.w ≤ j → get_or l.counts j 0 ≡ get_or l.initial.counts j 0;
  total : sum l.counts ≡ sum l.initial.counts + sum (take l.w l.more);
}
