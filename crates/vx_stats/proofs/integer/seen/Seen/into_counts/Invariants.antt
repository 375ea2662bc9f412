use Rattle.std.proofs.Common.{◌≡◌, ◌+◌, ℤ, drop}
use Rattle.vx_stats.specs.Seen.{total, empties}
use Rattle.vx_stats.proofs.integer.seen.Seen.into_counts.Given as goal

abbrev pub invariant-loop-place : goal.invariant-loop-place
invariant-loop-place g l =
    let whole = g.T.Integer.whole in
    record {
      totals : (z : ℤ) → total whole l.counts.items z + total whole (drop l.place l.slots.items) z ≡ total whole l.initial.counts.items z + total whole l.slots.items z;
      some : empties l.counts.items ≡ empties l.initial.counts.items;
    }
