use Rattle.std.proofs.Common.{◌≡◌, ◌∙◌, ◌<◌, ◌+◌, ◌*◌, map, length, refl, subst, arith}
use Rattle.std.proofs.lemmas.List.{length-map}
use Rattle.vx_blocks.proofs.DeltaSums.{goes_on-base}
use Rattle.vx_blocks.proofs.DeltasInPlace.{SummedTo, goes_on-next, summed-all, summed-more}
use Rattle.vx_blocks.proofs.Sequences.{whole-at}
use Rattle.vx_blocks.proofs.undeltas.undelta_in_place.Goals as goal

pub loop-block-init : goal.loop-block-init
loop-block-init g c = record { long = refl; rows = λ k lt. absurd (omega arith); rest = λ k le. refl }

pub loop-row-init : goal.loop-row-init
loop-row-init g c =
    let whole = g.T.Integer.whole in
    let block = c.loop-block.block in
    let base = whole-at whole c.args.bases.now block c.index-bases-block.result c.loop-block-test.true c.index-bases-block.is in
    record {
      first = omega arith;
      last = goes_on-base g.T.Integer.kind (map whole c.args.bases.now) (map whole c.args.rows.now) block (whole c.index-bases-block.result) base;
      rows = c.loop-block.invariant;
    }

pub loop-row-preserved : goal.loop-row-preserved
loop-row-preserved g c =
    let whole = g.T.Integer.whole in
    let kind = g.T.Integer.kind in
    let bases = map whole c.args.bases.now in
    let deltas = map whole c.args.rows.now in
    let at = c.loop-row.row in
    let items = c.loop-row.rows in
    let s = c.loop-row.invariant.rows in
    let size = length-map c.args.rows.now whole in
    let within : at < length deltas = omega (arith, size, c.requires) in
    let in_items : at < length items = omega (arith, length-map items whole, s.long) in
    let delta = whole-at whole items at c.index-rows-row.result in_items c.index-rows-row.is ∙ s.rest at (omega arith) in
    let next = whole c.sum-last.result in
    record {
      first = omega (arith, c.loop-row.invariant.first);
      last = goes_on-next kind bases deltas c.loop-block.block at (whole c.loop-row.last) _ next c.loop-row.invariant.first (omega arith) within delta c.sum-last.ensures c.loop-row.invariant.last;
      rows = summed-more kind bases deltas c.loop-block.block at (whole c.loop-row.last) _ next c.loop-row.invariant.first (omega arith) within delta c.sum-last.ensures c.loop-row.invariant.last whole items c.sum-last.result refl s;
    }

pub loop-block-preserved : goal.loop-block-preserved
loop-block-preserved g c =
    let end : c.loop-row.row ≡ 1024 * (c.loop-block.block + 1) = omega arith in
    subst (λ n. SummedTo g.T.Integer.kind (map g.T.Integer.whole c.args.bases.now) (map g.T.Integer.whole c.args.rows.now) (map g.T.Integer.whole c.loop-row.rows) n) end c.loop-row.invariant.rows

pub returns : goal.returns
returns g c =
    let whole = g.T.Integer.whole in
    summed-all g.T.Integer.kind (map whole c.args.bases.now) (map whole c.args.rows.now) (map whole c.loop-block.rows) (1024 * c.loop-block.block) (omega (arith, length-map c.args.rows.now whole, c.requires)) c.loop-block.invariant
