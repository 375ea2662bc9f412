use Rattle.std.proofs.Common.{◌≡◌, ◌≤◌, ◌++◌, drop, pos, ◌+ℤ◌, vec_len}
use Rattle.vx_stats.specs.Runs.{whole_counts}
use Rattle.vx_stats.specs.Tables.{entries}
use Rattle.vx_stats.proofs.integer.dense.entries.Given as goal

abbrev pub invariant-loop-place : goal.invariant-loop-place
invariant-loop-place g l =
    let whole = g.T.Integer.whole in
    record {
      few : vec_len l.counts ≤ l.place;
      done : whole_counts whole l.counts.items ++ entries (whole l.range.least +ℤ pos l.place) (drop l.place l.table) ≡ entries (whole l.range.least) l.table;
    }
