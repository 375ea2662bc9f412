use Rattle.std.proofs.Common.{◌≡◌, ◌≤◌, pos, map, drop}
use Rattle.std.specs.Prelude.{fold}
use Rattle.vx_stats.specs.Runs.{whole_count}
use Rattle.vx_schemes_runs.specs.Sparse.Vote.{after_vote}
use Rattle.vx_schemes_runs.proofs.integer.sparse.vote.winner_of_all.Given as goal

abbrev pub invariant-loop-row : goal.invariant-loop-row
invariant-loop-row g l =
    let whole = g.T.Integer.whole in
    record {
      few : l.leader.1 ≤ l.row;
      leader : fold after_vote (whole_count whole l.leader) (map whole (drop l.row l.items)) ≡ fold after_vote (pos 0, 0) (map whole l.items);
    }
