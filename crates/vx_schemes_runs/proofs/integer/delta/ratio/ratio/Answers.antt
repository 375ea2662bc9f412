use Rattle.std.proofs.Common.{◌+◌, ◌*◌, ◌∙◌}
use Rattle.vx_scheme.proofs.RatioLemmas.{Ratio-parts}
use Rattle.vx_schemes_runs.specs.Delta.Meaning.{padded}
use Rattle.vx_schemes_runs.proofs.integer.delta.ratio.ratio.Goals as goal

pub returns : goal.returns
returns c =
    Ratio-parts c.new.result _ _ (c.new.ensures.num ∙ (λ i. 95 * c.args.len * c.from.ensures i)) (c.new.ensures.den ∙ (λ i. 100 * padded c.args.len * (c.from-2.ensures i + 1)))
