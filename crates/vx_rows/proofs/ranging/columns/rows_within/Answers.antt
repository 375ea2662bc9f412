use Rattle.std.proofs.Common.{◌∙◌, ap, length, map, sym}
use Rattle.std.specs.Prelude.{replicate}
use Rattle.std.proofs.lemmas.List.{length-replicate}
use Rattle.vx_base.specs.CellValue.{cell_value}
use Rattle.vx_base.specs.PlainValue.{int}
use Rattle.vx_model.specs.Rows.{valid_rows}
use Rattle.vx_values.specs.IntsOf.{wholes_of}
use Rattle.vx_rows.specs.Pairs.{rows_within}
use Rattle.vx_rows.specs.Readable.{lent_rows}
use Rattle.vx_rows.proofs.AnswerLemmas.{or-map}
use Rattle.vx_rows.proofs.ranging.columns.rows_within.Goals as goal

pub within_same-requires-clause-lengths : goal.within_same-requires-clause-lengths
within_same-requires-clause-lengths c =
    let p = c.in-Ints-Same-Same in
    sym (ap (λ r. length (lent_rows r)) p.is-0) ∙ c.requires.highs ∙ ap (λ r. length (lent_rows r)) p.is-2 ∙ length-replicate p.len (cell_value p.greatest)

pub returns-in-Ints-Same-Same : goal.returns-in-Ints-Same-Same
returns-in-Ints-Same-Same c =
    let p = c.in-Ints-Same-Same in
    let options = c.args.options in
    let rows = valid_rows p.valid.now (map int (wholes_of p.values.now)) in
    let many = sym (ap (λ r. length (lent_rows r)) p.is-0) ∙ c.requires.highs ∙ ap (λ r. length (lent_rows r)) p.is-2 ∙ length-replicate p.len (cell_value p.greatest) in
    let few = sym (length-replicate p.field-1-1 (cell_value p.least)) ∙ sym (ap (λ r. length (lent_rows r)) p.is-1) ∙ sym c.requires.lows ∙ ap (λ r. length (lent_rows r)) p.is-0 ∙ many in
    or-map c.within_same.result _ _
    (λ truths e. e ∙ sym ((λ i. rows_within options (lent_rows (p.is-0 i)) (lent_rows (p.is-1 i)) (lent_rows (p.is-2 i)))
    ∙ ap (λ k. rows_within options rows (replicate k (cell_value p.least)) (replicate p.len (cell_value p.greatest))) few)) c.within_same.ensures
