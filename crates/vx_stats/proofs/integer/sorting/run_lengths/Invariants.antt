use Rattle.std.proofs.Common.{◌≡◌, ◌≤◌, ◌<◌, ◌++◌, map, drop, vec_len}
use Rattle.vx_stats.specs.Runs.{whole_counts, runs_from, runs}
use Rattle.vx_stats.proofs.integer.sorting.run_lengths.Given as goal

abbrev pub invariant-loop-row : goal.invariant-loop-row
invariant-loop-row g l =
    let whole = g.T.Integer.whole in
    record {
      few : vec_len l.counts < l.row;
      small : l.count ≤ l.row;
      done : whole_counts whole l.counts.items ++ runs_from (whole l.value) l.count (map whole (drop l.row l.items)) ≡ runs (map whole l.items);
    }
