use Rattle.std.proofs.Common.{◌≤◌, map, drop}
use Rattle.vx_stats.proofs.DistinctLemmas.{RunsSoFar}
use Rattle.vx_stats.proofs.integer.rising.runs_of_all.Given as goal

abbrev pub invariant-loop-row : goal.invariant-loop-row
invariant-loop-row g l =
    let whole = g.T.Integer.whole in
    record {
      few : l.runs ≤ l.row;
      so_far : RunsSoFar (whole l.last) l.runs (map whole (drop l.row l.items)) (map whole l.items);
    }
