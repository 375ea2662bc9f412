use Rattle.std.proofs.Common.{◌≡◌, ◌≤◌, ◌+◌, map, drop}
use Rattle.vx_stats.specs.Distinct.{times}
use Rattle.vx_schemes_runs.proofs.integer.sparse.vote.times_in_all.Given as goal

abbrev pub invariant-loop-row : goal.invariant-loop-row
invariant-loop-row g l =
    let whole = g.T.Integer.whole in
    record {
      few : l.count ≤ l.row;
      count : l.count + times (map whole (drop l.row l.items)) (whole l.fn.value) ≡ times (map whole l.items) (whole l.fn.value);
    }
