use Rattle.std.proofs.Common.{◌∙◌, ap, arith, sym}
use Rattle.vx_base.specs.CellValue.{cell_value}
use Rattle.vx_base.specs.PlainValue.{same_value, stored_value}
use Rattle.vx_base.specs.Storable.{same_from}
use Rattle.vx_rows.specs.Readable.{lent_rows}
use Rattle.vx_rows.proofs.ConstantLemmas.{equal-all, equal-first, equal-more, equal-none, equal-not}
use Rattle.vx_rows.proofs.constancy.are_equal.Goals as goal

pub returns-then-len-eq0 : goal.returns-then-len-eq0
returns-then-len-eq0 c = equal-none (lent_rows c.args.rows) (omega (arith, c.len-len.ensures))

pub loop-row-init : goal.loop-row-init
loop-row-init c = equal-first (cell_value c.cell-first.result) (lent_rows c.args.rows) (omega (arith, c.len-len.ensures)) c.cell-first.ensures

pub loop-row-preserved : goal.loop-row-preserved
loop-row-preserved c =
    equal-more (cell_value c.cell-first.result) (lent_rows c.args.rows) c.loop-row.row (omega (arith, c.len-len.ensures)) c.loop-row.invariant
    (ap (same_value (cell_value c.cell-first.result)) (sym c.cell.ensures) ∙ sym (same_from stored_value (cell_value c.cell-first.result) (cell_value c.cell.result) c.same_cell.result (λ t. c.same_cell.ensures.0 t) (λ e. c.same_cell.ensures.1 e)) ∙ c.if-not-same_cell.false)

pub returns-then-not-same_cell : goal.returns-then-not-same_cell
returns-then-not-same_cell c =
    equal-not (cell_value c.cell-first.result) (lent_rows c.args.rows) c.loop-row.row (omega arith) (omega (arith, c.len-len.ensures)) c.cell-first.ensures
    (ap (same_value (cell_value c.cell-first.result)) (sym c.cell.ensures) ∙ sym (same_from stored_value (cell_value c.cell-first.result) (cell_value c.cell.result) c.same_cell.result (λ t. c.same_cell.ensures.0 t) (λ e. c.same_cell.ensures.1 e)) ∙ c.if-not-same_cell.true)

pub returns : goal.returns
returns c = equal-all (cell_value c.cell-first.result) (lent_rows c.args.rows) c.loop-row.row (omega (arith, c.len-len.ensures)) c.cell-first.ensures (omega (arith, c.len-len.ensures)) c.loop-row.invariant
