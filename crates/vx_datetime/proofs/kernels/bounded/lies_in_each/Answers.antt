use Rattle.std.proofs.Common.{◌≡◌, ◌∙◌, ℕ, ap, length}
use Rattle.std.specs.Prelude.{◌&&◌}
use Rattle.std.specs.declared.cmp.Ordering.{Ordering}
use Rattle.std.proofs.lemmas.Result.{MatchResult-weaker}
use Rattle.vx_model.specs.Rows.{below}
use Rattle.vx_datetime.specs.Moments.{row_parts}
use Rattle.vx_datetime.proofs.OrderAnswers.{both-of-each}
use Rattle.vx_rules.specs.Comparisons.{holds}
use Rattle.vx_time.specs.CanonicalParts.{parts_cmp}
use Rattle.vx_values.specs.IntsOf.{wholes_of}
use Rattle.vx_datetime.proofs.kernels.bounded.lies_in_each.Goals as goal

pub returns : goal.returns
returns c =
    let r = c.args.rows.now in
    let n = length (wholes_of r.days.now) in
    let f : ℕ → Ordering = λ i. parts_cmp (row_parts c.args.lows.now i) (row_parts r i) in
    let g : ℕ → Ordering = λ i. parts_cmp (row_parts r i) (row_parts c.args.highs.now i) in
    let low : c.as_slice.result.now ≡ below f n = c.as_slice.ensures.value ∙ c.in_ok-low.ensures ∙ ap (below f) c.requires.low_days in
    let high : c.as_slice-2.result.now ≡ below g n = c.as_slice-2.ensures.value ∙ c.in_ok-high.ensures in
    MatchResult-weaker c.both_hold_of_each.result c.both_hold_of_each.ensures
    (λ out is. is ∙ both-of-each f n c.as_slice.result.now low g c.as_slice-2.result.now high c.lower_operator-floor.result c.upper_operator-ceiling.result
    ∙ (λ j. below (λ i. holds (c.lower_operator-floor.ensures j) (f i) && holds (c.upper_operator-ceiling.ensures j) (g i)) n)) (λ e is. is)
