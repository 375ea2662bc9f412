use Rattle.std.proofs.Common.{◌+◌, true, map, drop, arith}
use Rattle.vx_schemes_runs.proofs.Delta.Spread.{spread-left}
use Rattle.vx_schemes_runs.proofs.Sparse.Vote.{counted}
use Rattle.vx_schemes_runs.proofs.integer.sparse.vote.times_in_all.Goals as goal

pub loop-row-preserved : goal.loop-row-preserved
loop-row-preserved g c =
    let whole = g.T.Integer.whole in
    let items = c.args.items.now in
    let row = c.loop-row.row in
    let x = c.index-items-row.result in
    let here = spread-left whole items row x (omega arith) c.index-items-row.is in
    record {
      few = omega (arith, c.share-count.ensures.most, c.loop-row.invariant.few);
      count = counted true (whole c.args.value) (whole x) _ (map whole (drop (row + 1) items)) c.loop-row.count c.share-count.result _ here c.share-count.ensures.value c.loop-row.invariant.count;
    }
