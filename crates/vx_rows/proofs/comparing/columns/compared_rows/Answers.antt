use Rattle.std.proofs.Common.{◌∙◌, ap, length, map, sym}
use Rattle.std.specs.Prelude.{replicate}
use Rattle.std.proofs.lemmas.List.{length-replicate}
use Rattle.vx_base.specs.CellValue.{cell_value}
use Rattle.vx_base.specs.PlainValue.{bytes, int}
use Rattle.vx_model.specs.Rows.{valid_rows}
use Rattle.vx_values.specs.IntsOf.{wholes_of}
use Rattle.vx_rows.specs.Pairs.{compared_rows}
use Rattle.vx_rows.specs.Readable.{is_whole, lent_rows}
use Rattle.vx_rows.proofs.AnswerLemmas.{or-map}
use Rattle.vx_rows.proofs.LentLemmas.{length-ints}
use Rattle.vx_rows.proofs.TurnLemmas.{rows-turned}
use Rattle.vx_rows.proofs.comparing.columns.compared_rows.Goals as goal

pub compared_pairs-requires-clause-lengths : goal.compared_pairs-requires-clause-lengths
compared_pairs-requires-clause-lengths c =
    let p = c.in-Ints-Ints in
    sym (length-ints (wholes_of p.values.now) p.valid.now (sym (ap is_whole p.is-0) ∙ c.requires.left)) ∙ sym (ap (λ r. length (lent_rows r)) p.is-0) ∙ c.requires.lengths
    ∙ ap (λ r. length (lent_rows r)) p.is-1 ∙ length-ints (wholes_of p.others.now) p.other_valid.now (sym (ap is_whole p.is-1) ∙ c.requires.right)

pub compared_with_same-requires-clause-lengths : goal.compared_with_same-requires-clause-lengths
compared_with_same-requires-clause-lengths c =
    let p = c.in-Ints-Same in
    sym (ap (λ r. length (lent_rows r)) p.is-0) ∙ c.requires.lengths ∙ ap (λ r. length (lent_rows r)) p.is-1 ∙ length-replicate p.len (cell_value p.value)

pub returns-in-Ints-Same : goal.returns-in-Ints-Same
returns-in-Ints-Same c =
    let p = c.in-Ints-Same in
    let op = c.args.operator in
    or-map c.compared_with_same.result _ _ (λ truths e. e ∙ sym (λ i. compared_rows op (lent_rows (p.is-0 i)) (lent_rows (p.is-1 i)))) c.compared_with_same.ensures

pub compared_with_same-requires-in-Same-Ints-clause-lengths : goal.compared_with_same-requires-in-Same-Ints-clause-lengths
compared_with_same-requires-in-Same-Ints-clause-lengths c =
    let p = c.in-Same-Ints in
    sym (ap (λ r. length (lent_rows r)) p.is-1) ∙ sym c.requires.lengths ∙ ap (λ r. length (lent_rows r)) p.is-0 ∙ length-replicate p.len (cell_value p.value)

pub returns-in-Same-Ints : goal.returns-in-Same-Ints
returns-in-Same-Ints c =
    let p = c.in-Same-Ints in
    let op = c.args.operator in
    let rows = valid_rows p.valid.now (map int (wholes_of p.values.now)) in
    let same = replicate p.len (cell_value p.value) in
    or-map c.compared_with_same-in-Same-Ints.result _ _
    (λ truths e. e ∙ ap (λ o. compared_rows o rows same) c.turned.ensures ∙ sym ((λ i. compared_rows op (lent_rows (p.is-0 i)) (lent_rows (p.is-1 i))) ∙ rows-turned op same rows))
    c.compared_with_same-in-Same-Ints.ensures

pub byte_rows_with_same-requires-in-Bytes-Same-clause-lengths : goal.byte_rows_with_same-requires-in-Bytes-Same-clause-lengths
byte_rows_with_same-requires-in-Bytes-Same-clause-lengths c =
    let p = c.in-Bytes-Same in
    sym (ap (λ r. length (lent_rows r)) p.is-0) ∙ c.requires.lengths ∙ ap (λ r. length (lent_rows r)) p.is-1 ∙ length-replicate p.len (cell_value p.value)

pub returns-in-Bytes-Same : goal.returns-in-Bytes-Same
returns-in-Bytes-Same c =
    let p = c.in-Bytes-Same in
    let op = c.args.operator in
    or-map c.byte_rows_with_same-in-Bytes-Same.result _ _ (λ truths e. e ∙ sym (λ i. compared_rows op (lent_rows (p.is-0 i)) (lent_rows (p.is-1 i)))) c.byte_rows_with_same-in-Bytes-Same.ensures

pub byte_rows_with_same-requires-clause-lengths : goal.byte_rows_with_same-requires-clause-lengths
byte_rows_with_same-requires-clause-lengths c =
    let p = c.in-Same-Bytes in
    sym (ap (λ r. length (lent_rows r)) p.is-1) ∙ sym c.requires.lengths ∙ ap (λ r. length (lent_rows r)) p.is-0 ∙ length-replicate p.len (cell_value p.value)

pub returns-in-Same-Bytes : goal.returns-in-Same-Bytes
returns-in-Same-Bytes c =
    let p = c.in-Same-Bytes in
    let op = c.args.operator in
    let rows = valid_rows p.valid.now (map bytes p.rows.now) in
    let same = replicate p.len (cell_value p.value) in
    or-map c.byte_rows_with_same.result _ _
    (λ truths e. e ∙ ap (λ o. compared_rows o rows same) c.turned-in-Same-Bytes.ensures ∙ sym ((λ i. compared_rows op (lent_rows (p.is-0 i)) (lent_rows (p.is-1 i))) ∙ rows-turned op same rows))
    c.byte_rows_with_same.ensures
