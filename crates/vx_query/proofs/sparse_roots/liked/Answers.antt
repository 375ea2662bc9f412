use Rattle.std.proofs.Common.{◌≡◌, subst}
use Rattle.vx_model.specs.Column.{column_of}
use Rattle.vx_rules.specs.Outcomes.{Follows, outcome}
use Rattle.vx_rules.specs.Patterns.{like, like_refusal}
use Rattle.vx_query.proofs.Following.{following, of_constant}
use Rattle.vx_query.proofs.sparse_roots.liked.Goals as goal

pub returns-clause-answer : goal.returns-clause-answer
returns-clause-answer c =
    let own = column_of c.args.array.now in
    let patterns = column_of c.in_ok-pattern.pattern in
    let options = c.args.options in
    subst (λ p. Follows (outcome (like_refusal own p) (like options own p)) (λ out column. column_of out ≡ column) c.like.result)
    (of_constant c.args.pattern.now c.as_array.result.now c.args.array.now c.in_ok-pattern.pattern c.in_ok-pattern.ensures c.as_array.ensures.tree)
    (following (like_refusal own patterns) (like options own patterns) c.like.result c.like.ensures.answer)
