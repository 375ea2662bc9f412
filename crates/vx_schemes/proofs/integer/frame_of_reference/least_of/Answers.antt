use Rattle.std.proofs.Common.{◌≡◌, ◌<◌, ◌∙◌, Some, rules, ap, subst, arith}
use Rattle.std.specs.Prelude.{FitsSigned}
use Rattle.std.specs.Int.{w128}
use Rattle.std.proofs.lemmas.Int.{to_z-of_z}
use Rattle.vx_base.specs.PlainType.{integer_of}
use Rattle.vx_model.specs.Column.{column_of}
use Rattle.vx_model.specs.Rows.{rows}
use Rattle.vx_model.specs.TreeType.{tree_type}
use Rattle.vx_model.specs.WellFormed.{WellFormed}
use Rattle.vx_model.proofs.MadeLemmas.{rows_fit}
use Rattle.vx_stats.specs.Stats.{PlainStats, value_count, least_in}
use Rattle.vx_schemes_common.proofs.KeptLemmas.{no_refusal, surely_decided}
use Rattle.vx_schemes.proofs.FrameOfReference.Least.{least-told}
use Rattle.vx_schemes.proofs.integer.frame_of_reference.least_of.Goals as goal

pub returns-clause-answer : goal.returns-clause-answer
returns-clause-answer c =
    let t = c.args.column.now.array in
    let fits : FitsSigned w128 c.least.result = search rules in
    let stats = surely_decided _ _ _ (no_refusal (rows t) c.requires.few) c.in_ok-stats.ensures.answer in
    let count : c.value_count.result ≡ value_count (rows t) = c.value_count.ensures ∙ ap (λ (s : PlainStats). s.value_count) stats in
    let some : 0 < value_count (rows t) = subst (λ n. 0 < n) count (omega (arith, c.if-value_count-eq0.false)) in
    let least : c.least.result ≡ least_in (integer_of (tree_type t)) (rows t) = c.least.ensures ∙ ap (λ e. e.least) (c.erased.ensures.extremes ∙ ap (λ (s : PlainStats). s.extremes) stats) in
    let well : WellFormed t = subst WellFormed c.array.ensures.array c.known.ensures in
    ap Some (to_z-of_z w128 c.least.result fits ∙ least) ∙ least-told (column_of t) c.requires.integer (rows_fit t well) some
