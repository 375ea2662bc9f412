use Rattle.std.proofs.Common.{◌≡◌, ◌∙◌, ap, map, sym}
use Rattle.std.specs.Prelude.{replicate}
use Rattle.std.proofs.lemmas.List.{length-replicate}
use Rattle.vx_base.specs.CellValue.{cell_value}
use Rattle.vx_base.specs.PlainValue.{bytes}
use Rattle.vx_model.specs.Rows.{valid_rows}
use Rattle.vx_rows.specs.Pairs.{compared_rows}
use Rattle.vx_rows.proofs.AnswerLemmas.{or-map, rows-with-bytes}
use Rattle.vx_rows.proofs.comparing.byte_rows.byte_rows_with_same.Goals as goal

pub compared_cells-requires-clause-lengths : goal.compared_cells-requires-clause-lengths
compared_cells-requires-clause-lengths c = c.requires.lengths ∙ sym (length-replicate c.args.len (cell_value c.args.value))

pub returns-in-Bytes : goal.returns-in-Bytes
returns-in-Bytes c =
    let op = c.args.operator in
    let p = c.in-Bytes in
    let rows = valid_rows c.args.valid.now (map bytes c.args.rows.now) in
    let value : cell_value c.args.value ≡ bytes p.value.now = ap cell_value p.is in
    or-map c.compared_with_bytes.result _ _
    (λ truths e. e ∙ sym (ap (λ v. compared_rows op rows (replicate c.args.len v)) value ∙ rows-with-bytes op p.value.now c.args.valid.now c.args.rows.now c.args.len c.requires.lengths))
    c.compared_with_bytes.ensures
