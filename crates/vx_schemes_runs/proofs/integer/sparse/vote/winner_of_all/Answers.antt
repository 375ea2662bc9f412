use Rattle.std.proofs.Common.{◌+◌, true, map, drop, arith}
use Rattle.vx_stats.specs.Runs.{whole_count}
use Rattle.vx_schemes_runs.proofs.Delta.Spread.{spread-left}
use Rattle.vx_schemes_runs.proofs.Sparse.Vote.{voted}
use Rattle.vx_schemes_runs.proofs.integer.sparse.vote.winner_of_all.Goals as goal

pub loop-row-preserved : goal.loop-row-preserved
loop-row-preserved g c =
    let whole = g.T.Integer.whole in
    let items = c.args.items.now in
    let row = c.loop-row.row in
    let x = c.index-items-row.result in
    let here = spread-left whole items row x (omega arith) c.index-items-row.is in
    record {
      few = omega (arith, c.voted-leader.ensures.most, c.loop-row.invariant.few);
      leader = voted true (whole_count whole c.loop-row.leader) (whole x) _ (map whole (drop (row + 1) items)) _ _ here c.voted-leader.ensures.leader c.loop-row.invariant.leader;
    }
