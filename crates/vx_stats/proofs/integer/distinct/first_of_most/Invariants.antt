use Rattle.std.proofs.Common.{◌≡◌, drop}
use Rattle.std.specs.Prelude.{fold}
use Rattle.vx_stats.specs.Distinct.{most_frequent}
use Rattle.vx_stats.specs.Runs.{whole_count, whole_counts, better}
use Rattle.vx_stats.proofs.integer.distinct.first_of_most.Given as goal

abbrev pub invariant-loop-row : goal.invariant-loop-row
invariant-loop-row g l =
    let whole = g.T.Integer.whole in
    fold better (whole_count whole l.best) (whole_counts whole (drop l.row l.counts)) ≡ most_frequent (whole_counts whole l.counts)
