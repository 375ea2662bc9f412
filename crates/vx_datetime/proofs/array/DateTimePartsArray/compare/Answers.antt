use Rattle.std.proofs.Common.{◌≡◌, ◌∙◌, ap, length, subst, sym, true}
use Rattle.std.specs.Prelude.{◌==◌}
use Rattle.std.proofs.lemmas.Bool.{and_parts, eqb-true}
use Rattle.vx_base.specs.Answers.{Decided, OrMemory}
use Rattle.vx_base.specs.PlainType.{is_flat, same_base}
use Rattle.vx_model.specs.Column.{column_of}
use Rattle.vx_model.specs.Rows.{rows}
use Rattle.vx_model.specs.TreeType.{tree_type}
use Rattle.vx_rules.specs.Comparisons.{compare_refusal, comparison}
use Rattle.vx_datetime.proofs.StampTypes.{compared-unrefused, or-decided}
use Rattle.vx_datetime.proofs.array.DateTimePartsArray.compare.Goals as goal

pub returns-then-not-is_like-clause-answer : goal.returns-then-not-is_like-clause-answer
returns-then-not-is_like-clause-answer c =
    let other = column_of c.args.other.now in
    subst (λ t. Decided (compare_refusal (column_of t) other) (λ out. column_of out ≡ comparison c.args.operator (column_of t) other) c.compare.result) c.self.view_is c.compare.ensures.answer

pub compared_with-requires-clause-base : goal.compared_with-requires-clause-base
compared_with-requires-clause-base c =
    let own = c.args.self.now in
    let other = c.args.other.now in
    subst (λ t. same_base (tree_type t) (tree_type other) ≡ true) (sym c.self.view_is) (and_parts (same_base (tree_type own) (tree_type other)) (length (rows own) == length (rows other)) (sym c.is_like.ensures ∙ c.if-not-is_like.false)).0

pub compared_with-requires-clause-lengths : goal.compared_with-requires-clause-lengths
compared_with-requires-clause-lengths c =
    let own = c.args.self.now in
    let other = c.args.other.now in
    ap (λ t. length (rows t)) c.self.view_is
    ∙ eqb-true (length (rows own)) (length (rows other)) (and_parts (same_base (tree_type own) (tree_type other)) (length (rows own) == length (rows other)) (sym c.is_like.ensures ∙ c.if-not-is_like.false)).1

pub returns-clause-answer : goal.returns-clause-answer
returns-clause-answer c =
    let own = c.args.self.now in
    let other = c.args.other.now in
    let both = and_parts (same_base (tree_type own) (tree_type other)) (length (rows own) == length (rows other)) (sym c.is_like.ensures ∙ c.if-not-is_like.false) in
    let flat : is_flat (tree_type own) ≡ true = ap (λ t. is_flat (tree_type t)) c.parts-parts.ensures.tree in
    or-decided (compare_refusal (column_of own) (column_of other)) (λ out. column_of out ≡ comparison c.args.operator (column_of own) (column_of other)) c.compared_with.result
    (compared-unrefused (column_of own) (column_of other) flat both.0 (eqb-true (length (rows own)) (length (rows other)) both.1))
    (subst (λ t. OrMemory c.compared_with.result (λ out. column_of out ≡ comparison c.args.operator (column_of t) (column_of other))) c.self.view_is c.compared_with.ensures.answer)
