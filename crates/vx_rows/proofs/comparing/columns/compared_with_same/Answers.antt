use Rattle.std.proofs.Common.{◌≡◌, ◌∙◌, ap, map, rules, sym}
use Rattle.std.specs.Int.{w128}
use Rattle.std.specs.Prelude.{FitsSigned, replicate}
use Rattle.std.proofs.lemmas.List.{length-replicate}
use Rattle.vx_base.specs.CellValue.{cell_value}
use Rattle.vx_base.specs.PlainValue.{int}
use Rattle.vx_model.specs.Rows.{valid_rows}
use Rattle.vx_values.specs.IntsOf.{wholes_of}
use Rattle.vx_rows.specs.Pairs.{compared_rows}
use Rattle.vx_rows.proofs.AnswerLemmas.{integer-is, rows-with-whole}
use Rattle.vx_rows.proofs.WholeLemmas.{rows-held}
use Rattle.vx_rows.proofs.comparing.columns.compared_with_same.Goals as goal

pub compared_cells-requires-clause-lengths : goal.compared_cells-requires-clause-lengths
compared_cells-requires-clause-lengths c = c.requires.lengths ∙ sym (length-replicate c.args.len (cell_value c.args.value))

pub returns-in-Some : goal.returns-in-Some
returns-in-Some c =
    let op = c.args.operator in
    let zs = wholes_of c.args.values.now in
    let rows = valid_rows c.args.valid.now (map int zs) in
    let whole = c.in-Some.whole in
    let value : cell_value c.args.value ≡ int whole = integer-is (cell_value c.args.value) whole (sym c.in-Some.is ∙ c.integer-found.ensures) in
    let held : FitsSigned w128 whole = search rules in
    rows-held c.compared_with_whole.result op whole c.args.valid.now zs _ held (ap (λ v. compared_rows op rows (replicate c.args.len v)) value ∙ rows-with-whole op whole c.args.valid.now zs c.args.len c.requires.lengths)
    c.compared_with_whole.ensures
