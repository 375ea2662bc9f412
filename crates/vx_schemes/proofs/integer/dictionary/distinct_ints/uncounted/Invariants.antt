use Rattle.std.proofs.Common.{◌≡◌, ◌++◌, map, drop}
use Rattle.vx_stats.specs.Runs.{whole_counts}
use Rattle.vx_schemes.proofs.integer.dictionary.distinct_ints.uncounted.Given as goal

abbrev pub invariant-loop-row : goal.invariant-loop-row
invariant-loop-row g l =
    let whole = g.T.Integer.whole in
    map whole l.values.items ++ map (λ c. c.0) (whole_counts whole (drop l.row l.counts)) ≡ map (λ c. c.0) (whole_counts whole l.counts)
