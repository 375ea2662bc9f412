use Rattle.std.proofs.Common.{◌≡◌, ◌∙◌, ℕ, ℤ, map, false, Some, sym, ap, subst}
use Rattle.std.specs.Prelude.{◌==◌, IfSome}
use Rattle.std.proofs.lemmas.Bool.{ne_eqb}
use Rattle.vx_model.specs.Rows.{rows}
use Rattle.vx_values.specs.IntsOf.{wholes_of}
use Rattle.vx_stats.specs.Stats.{PlainStats, value_count, distinct_counts}
use Rattle.vx_schemes.proofs.Dictionary.Ratio.{distinct-told}
use Rattle.vx_schemes.proofs.Dictionary.Tree.{uncounted-distinct, found-some}
use Rattle.vx_schemes_common.proofs.KeptLemmas.{no_refusal, kept_or_decided}
use Rattle.vx_schemes.proofs.integer.dictionary.distinct_of.Goals as goal

pub returns-clause-values : goal.returns-clause-values
returns-clause-values c =
    let vs = rows c.args.column.now.array in
    let ints = c.in_ok-distinct_ints.field-0 in
    let stats = kept_or_decided c.args.column.now.integers_kept _ _ _ (no_refusal vs c.requires.few) c.in_ok-stats.ensures.answer in
    let told = ap (λ (s : PlainStats). s.distinct) stats ∙ distinct-told c.args.column.now.options vs c.requires.options c.requires.some in
    let wholes : wholes_of ints ≡ map (λ (d : ℤ × ℕ). d.0) (distinct_counts vs) = subst (λ o. IfSome o (λ counts. wholes_of ints ≡ map (λ (d : ℤ × ℕ). d.0) counts)) told c.in_ok-distinct_ints.ensures.values in
    let some : (value_count vs == 0) ≡ false = sym (ap (λ n. n == 0) (c.value_count.ensures ∙ ap (λ s. s.value_count) stats)) ∙ ne_eqb _ 0 c.if-value_count-eq0.false in
    ap Some (wholes ∙ uncounted-distinct vs) ∙ found-some vs some
