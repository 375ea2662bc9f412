use Rattle.std.proofs.Common.{subst}
use Rattle.vx_base.specs.Answers.{Answers}
use Rattle.vx_model.specs.Column.{column_of}
use Rattle.vx_schemes_runs.specs.Delta.Meaning.{least_ratio, delta_resolved}
use Rattle.vx_schemes_runs.specs.Thresholds.{above}
use Rattle.vx_schemes_runs.proofs.ThresholdLemmas.{answers-resolved}
use Rattle.vx_schemes_runs.proofs.integer.delta.DeltaSchemeScheme.resolve_estimate.Goals as goal

pub returns-clause-answer : goal.returns-clause-answer
returns-clause-answer c = λ taken put_off.
    let t = c.args.column.now.array in
    let least = least_ratio c.args.self.now in
    answers-resolved c.args.threshold (delta_resolved least (column_of t)) c.resolved.result
    (subst (λ u. Answers c.resolved.result (above c.args.threshold (delta_resolved least (column_of u)))) c.array-array.ensures.array c.resolved.ensures)

pub returns-clause-exact : goal.returns-clause-exact
returns-clause-exact c = λ taken.
    let least = least_ratio c.args.self.now in
    subst (λ u. Answers c.resolved.result (above c.args.threshold (delta_resolved least (column_of u)))) c.array-array.ensures.array c.resolved.ensures
