use Rattle.std.proofs.Common.{◌≡◌, ◌∙◌, rules, true, sym, ap, subst}
use Rattle.std.specs.Prelude.{FitsSigned}
use Rattle.std.specs.Int.{w128}
use Rattle.std.proofs.lemmas.Int.{to_z-of_z}
use Rattle.vx_base.specs.Integers.{lies_in}
use Rattle.vx_base.specs.PlainType.{integer_of}
use Rattle.vx_model.specs.Column.{column_of}
use Rattle.vx_model.specs.Rows.{rows}
use Rattle.vx_model.specs.TreeType.{tree_type}
use Rattle.vx_model.specs.WellFormed.{WellFormed}
use Rattle.vx_model.proofs.MadeLemmas.{rows_fit}
use Rattle.vx_stats.specs.Stats.{PlainStats}
use Rattle.vx_schemes.specs.FrameOfReference.Laws.{least_in-held}
use Rattle.vx_schemes_common.proofs.KeptLemmas.{no_refusal, surely_decided}
use Rattle.vx_schemes.proofs.extremes.least_value.Goals as goal

pub returns-clause-answer : goal.returns-clause-answer
returns-clause-answer c =
    let t = c.args.column.now.array in
    let fits : FitsSigned w128 c.least.result = search rules in
    let stats = surely_decided _ _ _ (no_refusal (rows t) c.requires.few) c.in_ok-integer_summary.ensures.answer in
    to_z-of_z w128 c.least.result fits ∙ c.least.ensures ∙ ap (λ e. e.least) (c.erased.ensures.extremes ∙ ap (λ (s : PlainStats). s.extremes) stats)

pub returns-clause-held : goal.returns-clause-held
returns-clause-held c =
    let t = c.args.column.now.array in
    let fits : FitsSigned w128 c.least.result = search rules in
    let stats = surely_decided _ _ _ (no_refusal (rows t) c.requires.few) c.in_ok-integer_summary.ensures.answer in
    let is = to_z-of_z w128 c.least.result fits ∙ c.least.ensures ∙ ap (λ e. e.least) (c.erased.ensures.extremes ∙ ap (λ (s : PlainStats). s.extremes) stats) in
    let well : WellFormed t = subst WellFormed c.array.ensures.array c.known.ensures in
    subst (λ z. lies_in (integer_of (tree_type t)) z ≡ true) (sym is) (least_in-held (column_of t) c.requires.integer (rows_fit t well))
