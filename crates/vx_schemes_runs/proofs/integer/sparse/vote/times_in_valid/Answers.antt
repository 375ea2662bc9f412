use Rattle.std.proofs.Common.{◌+◌, false, get_or, arith}
use Rattle.vx_stats.specs.Distinct.{times}
use Rattle.vx_stats.proofs.TallyLemmas.{left, left-next}
use Rattle.vx_schemes_runs.proofs.Sparse.Vote.{counted}
use Rattle.vx_schemes_runs.proofs.integer.sparse.vote.times_in_valid.Goals as goal

pub loop-row-preserved : goal.loop-row-preserved
loop-row-preserved g c =
    let whole = g.T.Integer.whole in
    let items = c.args.items.now in
    let bits = c.args.bits.now in
    let row = c.loop-row.row in
    let x = c.index-items-row.result in
    let here = left-next whole items bits row x (omega arith) c.requires c.index-items-row.is in
    record {
      few = omega (arith, c.share-count.ensures.most, c.loop-row.invariant.few);
      count = counted (get_or bits row false) (whole c.args.value) (whole x) (left whole items bits row) (left whole items bits (row + 1)) c.loop-row.count c.share-count.result (times (left whole items bits 0) (whole c.args.value)) here c.share-count.ensures.value c.loop-row.invariant.count;
    }
