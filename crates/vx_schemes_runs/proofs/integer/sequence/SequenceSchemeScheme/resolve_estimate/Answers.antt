use Rattle.std.proofs.Common.{◌∙◌, length, ap}
use Rattle.std.specs.Prelude.{Ok}
use Rattle.vx_model.specs.Column.{column_of}
use Rattle.vx_model.specs.Rows.{rows}
use Rattle.vx_schemes_runs.specs.Sequence.Meaning.{sequence_verdict}
use Rattle.vx_schemes_runs.specs.Sequence.Tree.{sequence_in}
use Rattle.vx_schemes_runs.specs.Thresholds.{above}
use Rattle.vx_schemes_runs.proofs.ThresholdLemmas.{above-resolved}
use Rattle.vx_schemes_runs.proofs.integer.sequence.SequenceSchemeScheme.resolve_estimate.Goals as goal

pub returns-clause-answer : goal.returns-clause-answer
returns-clause-answer c = λ taken put_off.
    let t = c.args.column.now.array in
    above-resolved c.args.threshold (sequence_verdict (length (rows t)) (sequence_in (column_of t))) c.verdict.result
    (c.verdict.ensures ∙ ap (λ u. above c.args.threshold (sequence_verdict (length (rows u)) (sequence_in (column_of u)))) c.array-array.ensures.array)

pub returns-clause-exact : goal.returns-clause-exact
returns-clause-exact c = λ taken.
    ap Ok (c.verdict.ensures ∙ ap (λ u. above c.args.threshold (sequence_verdict (length (rows u)) (sequence_in (column_of u)))) c.array-array.ensures.array)
