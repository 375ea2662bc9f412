use Rattle.std.proofs.Common.{◌≡◌, subst}
use Rattle.vx_model.specs.Column.{column_of}
use Rattle.vx_rules.specs.Comparisons.{compare_refusal, comparison}
use Rattle.vx_rules.specs.Outcomes.{Follows, outcome}
use Rattle.vx_query.proofs.Following.{following, of_constant}
use Rattle.vx_query.proofs.parts_roots.compared.Goals as goal

pub returns-clause-answer : goal.returns-clause-answer
returns-clause-answer c =
    let own = column_of c.args.array.now in
    let other = column_of c.in_ok-other.other in
    let op = c.args.operator in
    subst (λ o. Follows (outcome (compare_refusal own o) (comparison op own o)) (λ out column. column_of out ≡ column) c.compare.result)
    (of_constant c.args.value.now c.as_array.result.now c.args.array.now c.in_ok-other.other c.in_ok-other.ensures c.as_array.ensures.tree)
    (following (compare_refusal own other) (comparison op own other) c.compare.result c.compare.ensures.answer)
