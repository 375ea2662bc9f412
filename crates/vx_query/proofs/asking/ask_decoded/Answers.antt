use Rattle.vx_model.specs.Column.{column_of}
use Rattle.vx_rules.specs.Comparisons.{between, between_refusal, compare_refusal, comparison}
use Rattle.vx_rules.specs.Operations.{repeated}
use Rattle.vx_rules.specs.Patterns.{like, like_refusal}
use Rattle.vx_query.proofs.Following.{column-answered}
use Rattle.vx_query.proofs.asking.ask_decoded.Goals as goal

pub returns-in-Compare-clause-answer : goal.returns-in-Compare-clause-answer
returns-in-Compare-clause-answer c =
    let column = column_of c.args.array.now in
    let other = repeated c.in-Compare.value column in
    rw (c.in-Compare.is, c.of_column.ensures)
    (column-answered (compare_refusal column other) (comparison c.in-Compare.operator column other) c.compare_scalar.result c.compare_scalar.ensures.answer)

pub returns-in-Between-clause-answer : goal.returns-in-Between-clause-answer
returns-in-Between-clause-answer c =
    let column = column_of c.args.array.now in
    let low = repeated c.in-Between.lower column in
    let high = repeated c.in-Between.upper column in
    rw (c.in-Between.is, c.of_column-in-Between.ensures)
    (column-answered (between_refusal column low high) (between c.in-Between.options column low high) c.between_scalars.result c.between_scalars.ensures.answer)

pub returns-in-Like-clause-answer : goal.returns-in-Like-clause-answer
returns-in-Like-clause-answer c =
    let column = column_of c.args.array.now in
    let patterns = repeated c.in-Like.pattern column in
    rw (c.in-Like.is, c.of_column-in-Like.ensures)
    (column-answered (like_refusal column patterns) (like c.in-Like.options column patterns) c.like_scalar.result c.like_scalar.ensures.answer)
