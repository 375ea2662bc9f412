use Rattle.std.proofs.Common.{◌<◌, map, length, take, arith}
use Rattle.std.proofs.lemmas.List.{length-map}
use Rattle.vx_base.specs.Undelta.{total}
use Rattle.vx_rows.proofs.TotalLemmas.{item-at, next-halves}
use Rattle.vx_rows.proofs.kernels.totals.block_total.Goals as goal

pub loop-row-preserved : goal.loop-row-preserved
loop-row-preserved g c =
    let whole = g.T.Integer.whole in
    let items = c.args.items.now in
    let zs = map whole items in
    let x = c.index-items-row.result in
    let here : c.loop-row.row < length items = omega arith in
    let at = item-at whole items c.loop-row.row x here c.index-items-row.is in
    record {
      from = omega arith;
      low = omega arith;
      high = omega arith;
      sum = next-halves zs c.loop-row.row c.loop-row.low c.loop-row.high c.natural-number.result (total (take c.args.start zs)) (whole x) (omega (arith, length-map items whole)) at c.natural-number.ensures c.loop-row.invariant.sum;
    }
