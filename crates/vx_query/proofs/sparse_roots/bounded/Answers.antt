use Rattle.std.proofs.Common.{◌≡◌, subst}
use Rattle.vx_model.specs.Column.{column_of}
use Rattle.vx_rules.specs.Comparisons.{between, between_refusal}
use Rattle.vx_rules.specs.Operations.{repeated}
use Rattle.vx_rules.specs.Outcomes.{Follows, outcome}
use Rattle.vx_query.proofs.Following.{following, of_constant}
use Rattle.vx_query.proofs.sparse_roots.bounded.Goals as goal

pub returns-clause-answer : goal.returns-clause-answer
returns-clause-answer c =
    let own = column_of c.args.array.now in
    let low = column_of c.in_ok-low.low in
    let high = column_of c.in_ok-high.high in
    let options = c.args.options in
    let least = repeated c.args.low.now own in
    subst (λ h. Follows (outcome (between_refusal own least h) (between options own least h)) (λ out column. column_of out ≡ column) c.between.result)
    (of_constant c.args.high.now c.as_array-2.result.now c.args.array.now c.in_ok-high.high c.in_ok-high.ensures c.as_array-2.ensures.tree)
    (subst (λ l. Follows (outcome (between_refusal own l high) (between options own l high)) (λ out column. column_of out ≡ column) c.between.result)
    (of_constant c.args.low.now c.as_array.result.now c.args.array.now c.in_ok-low.low c.in_ok-low.ensures c.as_array.ensures.tree)
    (following (between_refusal own low high) (between options own low high) c.between.result c.between.ensures.answer))
