use Rattle.std.proofs.Common.{◌≡◌, ◌∙◌, map, rules, sym}
use Rattle.std.specs.Int.{w128}
use Rattle.std.specs.Prelude.{FitsSigned, replicate}
use Rattle.std.proofs.lemmas.List.{length-replicate}
use Rattle.vx_base.specs.CellValue.{cell_value}
use Rattle.vx_base.specs.PlainValue.{int}
use Rattle.vx_model.specs.Rows.{valid_rows}
use Rattle.vx_values.specs.IntsOf.{wholes_of}
use Rattle.vx_rows.specs.Pairs.{rows_within}
use Rattle.vx_rows.proofs.AnswerLemmas.{integer-is, rows-within-wholes}
use Rattle.vx_rows.proofs.WholeLemmas.{within-held}
use Rattle.vx_rows.proofs.ranging.columns.within_same.Goals as goal

pub within_each-requires-clause-lows : goal.within_each-requires-clause-lows
within_each-requires-clause-lows c = c.requires.lengths ∙ sym (length-replicate c.args.len (cell_value c.args.low))

pub within_each-requires-clause-highs : goal.within_each-requires-clause-highs
within_each-requires-clause-highs c = c.requires.lengths ∙ sym (length-replicate c.args.len (cell_value c.args.high))

pub returns-in-Some-Some : goal.returns-in-Some-Some
returns-in-Some-Some c =
    let options = c.args.options in
    let zs = wholes_of c.args.values.now in
    let rows = valid_rows c.args.valid.now (map int zs) in
    let low = c.in-Some-Some.low in
    let high = c.in-Some-Some.high in
    let a : cell_value c.args.low ≡ int low = integer-is (cell_value c.args.low) low (sym c.in-Some-Some.is-0 ∙ c.integer-least.ensures) in
    let b : cell_value c.args.high ≡ int high = integer-is (cell_value c.args.high) high (sym c.in-Some-Some.is-1 ∙ c.integer-greatest.ensures) in
    let held_low : FitsSigned w128 low = search rules in
    let held_high : FitsSigned w128 high = search rules in
    within-held c.within_wholes.result options low high c.args.valid.now zs _ held_low held_high
    ((λ i. rows_within options rows (replicate c.args.len (a i)) (replicate c.args.len (b i))) ∙ rows-within-wholes options low high c.args.valid.now zs c.args.len c.requires.lengths)
    c.within_wholes.ensures
