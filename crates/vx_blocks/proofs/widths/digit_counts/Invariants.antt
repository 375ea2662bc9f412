use Rattle.std.proofs.Common.{◌≡◌, ◌+◌, ◌-◌, ◌<◌, ◌≤◌, ℕ, length, sum, take, get_or}
use Rattle.vx_blocks.proofs.widths.digit_counts.Given as goal

abbrev pub invariant-loop-w : goal.invariant-loop-w
invariant-loop-w l =
    record {
      size : length l.counts ≡ 65;
      each : (k : ℕ) → k < l.w → get_or l.counts k 0 ≡ get_or l.first (64 - k) 0 + get_or l.second (64 - k) 0;
      later : (k : ℕ) → l.w ≤ k → k < 65 → get_or l.counts k 0 ≡ 0;
      front : sum (take (l.width + 1) l.counts) ≡ sum l.counts;
      total : sum l.counts + sum (take (65 - l.w) l.first) + sum (take (65 - l.w) l.second) ≡ sum l.first + sum l.second;
    }
