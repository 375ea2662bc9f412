use Rattle.std.proofs.Common.{◌≡◌, ◌<◌, ◌∙◌, false, pos, sym, subst}
use Rattle.std.specs.Prelude.{◌-ℤ◌}
use Rattle.vx_stats.specs.Stats.{Extremes}
use Rattle.vx_schemes.specs.FrameOfReference.Meaning.{gains_nothing}
use Rattle.vx_schemes.proofs.WidthLemmas.{span-some, verdict-ratio}
use Rattle.vx_schemes.proofs.integer.frame_of_reference.verdict.Goals as goal

pub new-requires : goal.new-requires
new-requires c =
    let s = c.max_minus_min-span.result in
    let same = c.erased-erased.ensures.extremes in
    let gain = subst (λ (e : Extremes). gains_nothing e ≡ false) same (sym c.gains_nothing.ensures ∙ c.if-gains_nothing.false) in
    let spans = subst (λ (e : Extremes). pos s ≡ e.greatest -ℤ e.least) same c.max_minus_min-span.ensures in
    subst (λ d. 0 < d) (sym (c.from-2.ensures ∙ c.digits.ensures.digits)) (span-some c.args.stats.now.extremes s gain spans)

pub returns : goal.returns
returns c =
    let s = c.max_minus_min-span.result in
    let same = c.erased-erased.ensures.extremes in
    let gain = subst (λ (e : Extremes). gains_nothing e ≡ false) same (sym c.gains_nothing.ensures ∙ c.if-gains_nothing.false) in
    let spans = subst (λ (e : Extremes). pos s ≡ e.greatest -ℤ e.least) same c.max_minus_min-span.ensures in
    verdict-ratio c.args.bits c.args.stats.now.extremes s c.new.result gain spans (c.new.ensures.num ∙ c.from.ensures) (c.new.ensures.den ∙ c.from-2.ensures ∙ c.digits.ensures.digits)
