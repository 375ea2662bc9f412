use Rattle.std.proofs.Common.{◌≡◌, ◌∙◌, ◌-◌, ◌+ℤ◌, ◌*ℤ◌, ℤ, ap, pos, rules, subst, sym}
use Rattle.std.specs.Int.{w128}
use Rattle.std.specs.Prelude.{FitsSigned}
use Rattle.std.proofs.lemmas.Int.{to_z-of_z}
use Rattle.vx_base.specs.Answers.{SurelyDecided}
use Rattle.vx_base.specs.CellValue.{cell_value}
use Rattle.vx_base.specs.PlainValue.{int}
use Rattle.vx_model.specs.Refusals.{sequence_refusal}
use Rattle.vx_model.specs.Tree.{sequence}
use Rattle.vx_selections.proofs.SequenceRows.{first_row, none_sliced, sequence_sliced, some_rows, surely_made}
use Rattle.vx_selections.proofs.slices.encoded.part_sequence.Goals as goal

pub returns-then-start-end : goal.returns-then-start-end
returns-then-start-end c =
    let p = c.args.ptype in
    let n = c.args.nullability in
    let fits_first : FitsSigned w128 c.args.first = search rules in
    let fits_step : FitsSigned w128 c.args.step = search rules in
    let first = to_z-of_z w128 c.args.first fits_first in
    let step = to_z-of_z w128 c.args.step fits_step in
    surely_made _ c.sequence.result _ _ (none_sliced p n c.args.first c.args.step c.args.len c.requires.well c.args.start c.args.end c.if-start-end.true)
    (subst (λ (x : ℤ × ℤ). SurelyDecided (sequence_refusal p x.0 x.1 0) (λ made. made ≡ sequence p n x.0 x.1 0) c.sequence.result) (λ i. (first i, step i)) c.sequence.ensures)

pub sequence_at-requires-clause-in_range : goal.sequence_at-requires-clause-in_range
sequence_at-requires-clause-in_range c = first_row c.args.len c.args.start c.args.end c.requires.part c.if-start-end.false

pub returns : goal.returns
returns c =
    let p = c.args.ptype in
    let n = c.args.nullability in
    let fits_first : FitsSigned w128 c.args.first = search rules in
    let fits_step : FitsSigned w128 c.args.step = search rules in
    let fits_from : FitsSigned w128 c.in-Int.from = search rules in
    let first = to_z-of_z w128 c.args.first fits_first in
    let step = to_z-of_z w128 c.args.step fits_step in
    let from = to_z-of_z w128 c.in-Int.from fits_from in
    let some = some_rows c.args.len c.args.start c.args.end c.requires.part c.if-start-end.false in
    let whole = ap cell_value (sym c.in-Int.is) ∙ c.sequence_at.ensures ∙ (λ i. int (first i +ℤ pos c.args.start *ℤ step i)) in
    surely_made _ c.sequence-in-Int.result _ _ (sequence_sliced p n c.args.first c.args.step c.args.len c.requires.well c.args.start c.args.end c.requires.part some c.in-Int.from whole)
    (subst (λ (x : ℤ × ℤ). SurelyDecided (sequence_refusal p x.0 x.1 (c.args.end - c.args.start)) (λ made. made ≡ sequence p n x.0 x.1 (c.args.end - c.args.start)) c.sequence-in-Int.result) (λ i. (from i, step i)) c.sequence-in-Int.ensures)
