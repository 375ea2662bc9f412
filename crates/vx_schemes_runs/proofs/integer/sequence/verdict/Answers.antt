use Rattle.std.proofs.Common.{◌∙◌, sym}
use Rattle.vx_schemes_runs.proofs.Sequence.Verdict.{half-beaten, half-passing, none-skipped}
use Rattle.vx_schemes_runs.proofs.integer.sequence.verdict.Goals as goal

pub returns-then-is_beaten : goal.returns-then-is_beaten
returns-then-is_beaten c =
    half-beaten c.args.threshold _ _ c.new-ratio.result (sym c.is_beaten.ensures ∙ c.if-is_beaten.true) (c.new-ratio.ensures.num ∙ c.len.ensures) c.new-ratio.ensures.den

pub returns-in-Some : goal.returns-in-Some
returns-in-Some c =
    half-passing c.args.threshold _ _ _ c.new-ratio.result (sym c.in-Some.is ∙ c.sequence_in.ensures) (sym c.is_beaten.ensures ∙ c.if-is_beaten.false) (c.new-ratio.ensures.num ∙ c.len.ensures) c.new-ratio.ensures.den

pub returns-in-None : goal.returns-in-None
returns-in-None c = none-skipped c.args.threshold _ _ (sym c.in-None.is ∙ c.sequence_in.ensures)
