use Rattle.std.proofs.Common.{◌≡◌, ◌+◌, ℤ}
use Rattle.vx_stats.specs.Distinct.{times}
use Rattle.vx_stats.specs.Seen.{times_seen, empties}
use Rattle.vx_stats.proofs.TallyLemmas.{left}
use Rattle.vx_stats.proofs.integer.seen.seen_of_masked.Given as goal

abbrev pub invariant-loop-row : goal.invariant-loop-row
invariant-loop-row g l =
    let whole = g.T.Integer.whole in
    record {
      totals : (z : ℤ) → times_seen whole l.seen z + times (left whole l.items l.bits l.row) z ≡ times (left whole l.items l.bits 0) z;
      some : empties l.seen.evicted.items ≡ 0;
    }
