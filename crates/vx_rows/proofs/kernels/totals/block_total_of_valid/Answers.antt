use Rattle.std.proofs.Common.{◌<◌, cond, length, get_or, take, pos, arith, false}
use Rattle.vx_base.specs.Undelta.{total}
use Rattle.vx_rows.proofs.TotalLemmas.{length-terms, next-halves, term-at, terms}
use Rattle.vx_rows.proofs.kernels.totals.block_total_of_valid.Goals as goal

pub loop-row-preserved : goal.loop-row-preserved
loop-row-preserved g c =
    let whole = g.T.Integer.whole in
    let items = c.args.items.now in
    let mask = c.args.mask.now in
    let zs = terms whole items mask in
    let x = c.index-items-row.result in
    let z = cond (get_or mask c.loop-row.row false) (whole x) (pos 0) in
    let long = length-terms whole items mask c.requires.lengths in
    let here : c.loop-row.row < length items = omega arith in
    let at = term-at whole items mask c.loop-row.row x c.requires.lengths here c.index-items-row.is in
    record {
      from = omega arith;
      low = omega arith;
      high = omega arith;
      sum = next-halves zs c.loop-row.row c.loop-row.low c.loop-row.high c.natural_term-number.result (total (take c.args.start zs)) z (omega (arith, long)) at c.natural_term-number.ensures c.loop-row.invariant.sum;
    }
