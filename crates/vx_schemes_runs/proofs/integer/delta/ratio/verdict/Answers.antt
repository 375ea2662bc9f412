use Rattle.std.proofs.Common.{◌∙◌, ap, sym}
use Rattle.vx_schemes_runs.specs.Delta.Meaning.{delta_ratio, delta_verdict}
use Rattle.vx_schemes_runs.specs.Thresholds.{above}
use Rattle.vx_schemes_runs.proofs.Delta.Ratio.{verdict-below, verdict-above}
use Rattle.vx_schemes_runs.proofs.ThresholdLemmas.{beaten, passing}
use Rattle.vx_schemes_runs.proofs.integer.delta.ratio.verdict.Goals as goal

pub returns-then-is_beaten : goal.returns-then-is_beaten
returns-then-is_beaten c =
    let a = c.args in
    ap (above a.threshold)
    (verdict-below a.min_ratio a.len a.bits a.span c.ratio-ratio.result c.if-span-eq0.false (c.ratio-ratio.ensures ∙ ap (delta_ratio a.len a.bits) c.digits.ensures.digits) (sym c.is_beaten.ensures ∙ c.if-is_beaten.true))

pub returns-then-is_beaten-2 : goal.returns-then-is_beaten-2
returns-then-is_beaten-2 c =
    let a = c.args in
    beaten a.threshold c.ratio-ratio.result (delta_verdict a.min_ratio a.len a.bits a.span) (sym c.is_beaten-2.ensures ∙ c.if-is_beaten-2.true)
    (verdict-above a.min_ratio a.len a.bits a.span c.ratio-ratio.result c.if-span-eq0.false (c.ratio-ratio.ensures ∙ ap (delta_ratio a.len a.bits) c.digits.ensures.digits) (sym c.is_beaten.ensures ∙ c.if-is_beaten.false))

pub returns : goal.returns
returns c =
    let a = c.args in
    passing a.threshold c.ratio-ratio.result (delta_verdict a.min_ratio a.len a.bits a.span) (sym c.is_beaten-2.ensures ∙ c.if-is_beaten-2.false)
    (verdict-above a.min_ratio a.len a.bits a.span c.ratio-ratio.result c.if-span-eq0.false (c.ratio-ratio.ensures ∙ ap (delta_ratio a.len a.bits) c.digits.ensures.digits) (sym c.is_beaten.ensures ∙ c.if-is_beaten.false))
