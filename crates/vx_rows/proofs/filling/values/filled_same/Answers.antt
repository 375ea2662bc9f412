use Rattle.std.proofs.Common.{◌∙◌, ap, sym}
use Rattle.vx_base.specs.CellValue.{cell_value}
use Rattle.vx_base.specs.PlainScalar.{fits}
use Rattle.vx_model.specs.Column.{column, column_of}
use Rattle.vx_model.specs.Tree.{constant}
use Rattle.vx_rows.proofs.FillLemmas.{own-fits, same-filled, same-own}
use Rattle.vx_rows.proofs.filling.values.filled_same.Goals as goal

pub returns-then-is_filled : goal.returns-then-is_filled
returns-then-is_filled c =
    let f = c.args.fill.now in
    ap column_of c.constant.ensures
    ∙ (λ i. column_of (constant (c.in_ok-copy.ensures i) c.args.len))
    ∙ ap (column f.dtype) (sym (same-filled f.value (cell_value c.args.value) c.args.len (sym c.is_filled.ensures ∙ c.if-is_filled.true)))

pub of_cell-requires : goal.of_cell-requires
of_cell-requires c =
    let f = c.args.fill.now in
    let v = cell_value c.args.value in
    ap (λ t. fits t v) c.dtype.ensures ∙ own-fits f.dtype f.value v c.args.len c.requires (sym c.is_filled.ensures ∙ c.if-is_filled.false)

pub returns : goal.returns
returns c =
    let f = c.args.fill.now in
    let v = cell_value c.args.value in
    ap column_of c.constant-2.ensures
    ∙ (λ i. column_of (constant (c.in_ok-scalar.ensures i) c.args.len))
    ∙ (λ i. column (c.dtype.ensures i) (sym (same-own f.value v c.args.len (sym c.is_filled.ensures ∙ c.if-is_filled.false)) i))
