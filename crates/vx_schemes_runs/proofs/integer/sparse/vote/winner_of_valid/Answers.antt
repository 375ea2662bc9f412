use Rattle.std.proofs.Common.{◌+◌, false, get_or, pos, arith}
use Rattle.std.specs.Prelude.{fold}
use Rattle.vx_stats.specs.Runs.{whole_count}
use Rattle.vx_stats.proofs.TallyLemmas.{left, left-next}
use Rattle.vx_schemes_runs.specs.Sparse.Vote.{after_vote}
use Rattle.vx_schemes_runs.proofs.Sparse.Vote.{voted}
use Rattle.vx_schemes_runs.proofs.integer.sparse.vote.winner_of_valid.Goals as goal

pub loop-row-preserved : goal.loop-row-preserved
loop-row-preserved g c =
    let whole = g.T.Integer.whole in
    let items = c.args.items.now in
    let bits = c.args.bits.now in
    let row = c.loop-row.row in
    let x = c.index-items-row.result in
    let here = left-next whole items bits row x (omega arith) c.requires c.index-items-row.is in
    record {
      few = omega (arith, c.voted-leader.ensures.most, c.loop-row.invariant.few);
      leader = voted (get_or bits row false) (whole_count whole c.loop-row.leader) (whole x) (left whole items bits row) (left whole items bits (row + 1)) (whole_count whole c.voted-leader.result) (fold after_vote (pos 0, 0) (left whole items bits 0)) here c.voted-leader.ensures.leader c.loop-row.invariant.leader;
    }
