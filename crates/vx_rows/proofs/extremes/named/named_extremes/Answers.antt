use Rattle.std.proofs.Common.{◌<◌, ◌∙◌, ap, arith, length, sym}
use Rattle.std.specs.Ordering.{ord_max, ord_min}
use Rattle.std.proofs.lemmas.List.{take_all}
use Rattle.vx_base.specs.CellValue.{cell_value}
use Rattle.vx_model.specs.Rows.{masked_rows}
use Rattle.vx_model.proofs.RowLemmas.{length-masked_rows, row_at-masked_rows}
use Rattle.vx_rules.specs.Aggregates.{greatest, least, valid_values}
use Rattle.vx_rules.specs.ValueOrder.{value_cmp}
use Rattle.vx_rows.specs.Extremes.{next_valid}
use Rattle.vx_rows.specs.Readable.{lent_rows}
use Rattle.vx_rows.proofs.ExtremeLemmas.{masked-items, valid-more}
use Rattle.vx_rows.proofs.extremes.named.named_extremes.Goals as goal

pub loop-row-preserved : goal.loop-row-preserved
loop-row-preserved c =
    let rows = lent_rows c.args.rows in
    let bits = c.args.named.now in
    let all = masked_rows bits rows in
    let row = c.loop-row.row in
    let v = cell_value c.named_cell.result in
    let here : row < length all = omega (arith, c.len-len.ensures, length-masked_rows bits rows c.requires.long) in
    let at = c.named_cell.ensures ∙ sym (row_at-masked_rows bits rows row c.requires.long) in
    record {
      least = c.with_value-found.ensures.least ∙ ap (λ o. next_valid (ord_min value_cmp) o v) c.loop-row.invariant.least ∙ sym (valid-more (ord_min value_cmp) all row v here at);
      greatest = c.with_value-found.ensures.greatest ∙ ap (λ o. next_valid (ord_max value_cmp) o v) c.loop-row.invariant.greatest ∙ sym (valid-more (ord_max value_cmp) all row v here at);
    }

pub returns : goal.returns
returns c =
    let rows = lent_rows c.args.rows in
    let bits = c.args.named.now in
    let all = ap valid_values (take_all c.loop-row.row (masked_rows bits rows) (omega (arith, c.len-len.ensures, length-masked_rows bits rows c.requires.long))) ∙ masked-items bits rows in
    record {
      least = c.loop-row.invariant.least ∙ ap least all;
      greatest = c.loop-row.invariant.greatest ∙ ap greatest all;
    }
