use Rattle.std.proofs.Common.{◌∙◌, ap, map, arith}
use Rattle.std.proofs.lemmas.List.{length-map, take_all}
use Rattle.vx_base.specs.Undelta.{total}
use Rattle.vx_rows.proofs.TotalLemmas.{next-block}
use Rattle.vx_rows.proofs.kernels.totals.unsigned_total.Goals as goal

pub overflow_add-total : goal.overflow_add-total
overflow_add-total g c = omega (arith, c.loop-start.invariant.most, c.block_total-total.ensures.most, c.row_count-len.type_inv, c.row_count-len.ensures, c.min.ensures)

pub loop-start-preserved : goal.loop-start-preserved
loop-start-preserved g c =
    let zs = map g.T.Integer.whole c.args.items.now in
    record {
      rows = omega (arith, c.min.ensures, c.row_count-len.ensures);
      sum = next-block zs c.loop-start.start _ c.loop-start.total c.block_total-total.result c.loop-start.invariant.sum c.block_total-total.ensures.sum;
      most = omega (arith, c.loop-start.invariant.most, c.block_total-total.ensures.most);
    }

pub returns : goal.returns
returns g c =
    let zs = map g.T.Integer.whole c.args.items.now in
    c.loop-start.invariant.sum ∙ ap total (take_all c.loop-start.start zs (omega (arith, c.row_count-len.ensures, length-map c.args.items.now g.T.Integer.whole)))
