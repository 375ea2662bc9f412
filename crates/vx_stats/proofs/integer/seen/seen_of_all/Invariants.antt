use Rattle.std.proofs.Common.{◌≡◌, ◌+◌, ℤ, map, drop}
use Rattle.vx_stats.specs.Distinct.{times}
use Rattle.vx_stats.specs.Seen.{times_seen, empties}
use Rattle.vx_stats.proofs.integer.seen.seen_of_all.Given as goal

abbrev pub invariant-loop-row : goal.invariant-loop-row
invariant-loop-row g l =
    let whole = g.T.Integer.whole in
    record {
      totals : (z : ℤ) → times_seen whole l.seen z + times (map whole (drop l.row l.items)) z ≡ times (map whole l.items) z;
      some : empties l.seen.evicted.items ≡ 0;
    }
