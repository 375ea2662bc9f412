use Rattle.std.proofs.Common.{◌∙◌, ap}
use Rattle.std.specs.Prelude.{nat_lt}
use Rattle.vx_model.specs.Rows.{rows}
use Rattle.vx_schemes_common.proofs.KeptLemmas.{no_refusal, surely_decided}
use Rattle.vx_schemes_runs.proofs.integer.runs.has_short_runs.Goals as goal

pub returns-clause-answer : goal.returns-clause-answer
returns-clause-answer c =
    let t = c.args.column.now.array in
    let stats = surely_decided _ _ _ (no_refusal (rows t) c.requires.few) c.in_ok-integer_summary.ensures.answer in
    ap (λ n. nat_lt n 4) (c.average_run_length.ensures ∙ ap (λ s. s.average_run_length) stats)
