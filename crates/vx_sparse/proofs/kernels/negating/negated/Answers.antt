use Rattle.vx_sparse.proofs.Places.{same-places}
use Rattle.vx_sparse.proofs.RowAnswers.{answered-whole, are-answers, fill-refused, fill-uncopied, is-negation, values-refused}
use Rattle.vx_sparse.proofs.kernels.negating.negated.Goals as goal

pub returns-in_err-values-clause-answer : goal.returns-in_err-values-clause-answer
returns-in_err-values-clause-answer c =
    values-refused _ _ is-negation c.args.patches.now c.args.fill.now
    c.values.result.now c.in_err-values.field-0.0 c.from_residual.result c.values.ensures c.requires c.from_residual.ensures.1 c.in_err-values.ensures.answer

pub returns-in_err-row-clause-answer : goal.returns-in_err-row-clause-answer
returns-in_err-row-clause-answer c =
    fill-uncopied _ _ is-negation c.args.patches.now c.args.fill.now c.values.result.now c.in_ok-values.values
    c.in_err-row.field-0.0 c.from_residual-in_err-row.result c.values.ensures c.requires c.from_residual-in_err-row.ensures.1 c.in_ok-values.ensures.answer c.in_err-row.ensures

pub returns-in_err-fills-clause-answer : goal.returns-in_err-fills-clause-answer
returns-in_err-fills-clause-answer c =
    fill-refused _ _ is-negation c.args.patches.now c.args.fill.now
    c.in_ok-row.row c.in_err-fills.field-0.0 c.from_residual-in_err-fills.result c.in_ok-row.ensures c.from_residual-in_err-fills.ensures.1 c.in_err-fills.ensures.answer

pub over_answers-requires : goal.over_answers-requires
over_answers-requires c =
    are-answers _ _ is-negation c.args.patches.now c.args.fill.now
    c.values.result.now c.in_ok-row.row c.in_ok-values.values c.in_ok-fills.fills c.values.ensures c.in_ok-row.ensures c.in_ok-values.ensures.answer c.in_ok-fills.ensures.answer c.requires

pub returns-clause-answer : goal.returns-clause-answer
returns-clause-answer c =
    answered-whole _ _ is-negation c.args.patches.now c.args.fill.now
    c.values.result.now c.in_ok-row.row c.in_ok-values.values c.in_ok-fills.fills c.values.ensures c.in_ok-row.ensures c.in_ok-values.ensures.answer c.in_ok-fills.ensures.answer
    c.over_answers.result c.requires c.over_answers.ensures

pub returns-clause-places : goal.returns-clause-places
returns-clause-places c = same-places c.args.patches.now c.args.fill.now c.in_ok-values.values c.in_ok-fills.fills c.over_answers.result c.over_answers.ensures
