use Rattle.std.proofs.Common.{◌<◌, ◌∙◌, ap, arith, length, sym}
use Rattle.std.specs.Ordering.{ord_max, ord_min}
use Rattle.std.proofs.lemmas.List.{take_all}
use Rattle.vx_base.specs.CellValue.{cell_value}
use Rattle.vx_rules.specs.Aggregates.{greatest, least, valid_values}
use Rattle.vx_rules.specs.ValueOrder.{value_cmp}
use Rattle.vx_rows.specs.Extremes.{next_valid}
use Rattle.vx_rows.specs.Readable.{lent_rows}
use Rattle.vx_rows.proofs.ExtremeLemmas.{valid-more}
use Rattle.vx_rows.proofs.extremes.cell_extremes.Goals as goal

pub loop-row-preserved : goal.loop-row-preserved
loop-row-preserved c =
    let rows = lent_rows c.args.rows in
    let v = cell_value c.cell.result in
    let here : c.loop-row.row < length rows = omega (arith, c.len-len.ensures) in
    record {
      least = c.with_value-found.ensures.least ∙ ap (λ o. next_valid (ord_min value_cmp) o v) c.loop-row.invariant.least ∙ sym (valid-more (ord_min value_cmp) rows c.loop-row.row v here c.cell.ensures);
      greatest = c.with_value-found.ensures.greatest ∙ ap (λ o. next_valid (ord_max value_cmp) o v) c.loop-row.invariant.greatest ∙ sym (valid-more (ord_max value_cmp) rows c.loop-row.row v here c.cell.ensures);
    }

pub returns : goal.returns
returns c =
    let all = take_all c.loop-row.row (lent_rows c.args.rows) (omega (arith, c.len-len.ensures)) in
    record {
      least = c.loop-row.invariant.least ∙ ap (λ vs. least (valid_values vs)) all;
      greatest = c.loop-row.invariant.greatest ∙ ap (λ vs. greatest (valid_values vs)) all;
    }
