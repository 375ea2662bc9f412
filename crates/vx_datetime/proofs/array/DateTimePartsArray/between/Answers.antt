use Rattle.std.proofs.Common.{◌≡◌, ◌∙◌, ap, length, subst, sym, true}
use Rattle.std.specs.Prelude.{◌==◌}
use Rattle.std.proofs.lemmas.Bool.{and_parts, eqb-true}
use Rattle.vx_base.specs.Answers.{Decided, OrMemory}
use Rattle.vx_base.specs.PlainType.{is_flat, same_base}
use Rattle.vx_model.specs.Column.{column_of}
use Rattle.vx_model.specs.Rows.{rows}
use Rattle.vx_model.specs.TreeType.{tree_type}
use Rattle.vx_rules.specs.Comparisons.{between, between_refusal}
use Rattle.vx_datetime.proofs.StampTypes.{or-decided, within-unrefused}
use Rattle.vx_datetime.proofs.array.DateTimePartsArray.between.Goals as goal

pub returns-then-not-are_like-clause-answer : goal.returns-then-not-are_like-clause-answer
returns-then-not-are_like-clause-answer c =
    let low = column_of c.args.lower.now in
    let high = column_of c.args.upper.now in
    subst (λ t. Decided (between_refusal (column_of t) low high) (λ out. column_of out ≡ between c.args.options (column_of t) low high) c.between.result) c.self.view_is c.between.ensures.answer

pub within_columns-requires-clause-low_base : goal.within_columns-requires-clause-low_base
within_columns-requires-clause-low_base c =
    let own = c.args.self.now in
    let lower = c.args.lower.now in
    let upper = c.args.upper.now in
    let both = and_parts c.is_like.result c.is_like-2.result c.if-not-are_like.false in
    subst (λ t. same_base (tree_type t) (tree_type lower) ≡ true) (sym c.self.view_is) (and_parts (same_base (tree_type own) (tree_type lower)) (length (rows own) == length (rows lower)) (sym c.is_like.ensures ∙ both.0)).0

pub within_columns-requires-clause-high_base : goal.within_columns-requires-clause-high_base
within_columns-requires-clause-high_base c =
    let own = c.args.self.now in
    let lower = c.args.lower.now in
    let upper = c.args.upper.now in
    let both = and_parts c.is_like.result c.is_like-2.result c.if-not-are_like.false in
    subst (λ t. same_base (tree_type t) (tree_type upper) ≡ true) (sym c.self.view_is) (and_parts (same_base (tree_type own) (tree_type upper)) (length (rows own) == length (rows upper)) (sym c.is_like-2.ensures ∙ both.1)).0

pub within_columns-requires-clause-low_length : goal.within_columns-requires-clause-low_length
within_columns-requires-clause-low_length c =
    let own = c.args.self.now in
    let lower = c.args.lower.now in
    let upper = c.args.upper.now in
    let both = and_parts c.is_like.result c.is_like-2.result c.if-not-are_like.false in
    ap (λ t. length (rows t)) c.self.view_is ∙ eqb-true (length (rows own)) (length (rows lower)) (and_parts (same_base (tree_type own) (tree_type lower)) (length (rows own) == length (rows lower)) (sym c.is_like.ensures ∙ both.0)).1

pub within_columns-requires-clause-high_length : goal.within_columns-requires-clause-high_length
within_columns-requires-clause-high_length c =
    let own = c.args.self.now in
    let lower = c.args.lower.now in
    let upper = c.args.upper.now in
    let both = and_parts c.is_like.result c.is_like-2.result c.if-not-are_like.false in
    ap (λ t. length (rows t)) c.self.view_is ∙ eqb-true (length (rows own)) (length (rows upper)) (and_parts (same_base (tree_type own) (tree_type upper)) (length (rows own) == length (rows upper)) (sym c.is_like-2.ensures ∙ both.1)).1

pub returns-clause-answer : goal.returns-clause-answer
returns-clause-answer c =
    let own = c.args.self.now in
    let lower = c.args.lower.now in
    let upper = c.args.upper.now in
    let both = and_parts c.is_like.result c.is_like-2.result c.if-not-are_like.false in
    let low = (and_parts (same_base (tree_type own) (tree_type lower)) (length (rows own) == length (rows lower)) (sym c.is_like.ensures ∙ both.0)) in
    let high = (and_parts (same_base (tree_type own) (tree_type upper)) (length (rows own) == length (rows upper)) (sym c.is_like-2.ensures ∙ both.1)) in
    let flat : is_flat (tree_type own) ≡ true = ap (λ t. is_flat (tree_type t)) c.parts-parts.ensures.tree in
    or-decided (between_refusal (column_of own) (column_of lower) (column_of upper)) (λ out. column_of out ≡ between c.args.options (column_of own) (column_of lower) (column_of upper)) c.within_columns.result
    (within-unrefused (column_of own) (column_of lower) (column_of upper) flat low.0 high.0 (eqb-true (length (rows own)) (length (rows lower)) low.1) (eqb-true (length (rows own)) (length (rows upper)) high.1))
    (subst (λ t. OrMemory c.within_columns.result (λ out. column_of out ≡ between c.args.options (column_of t) (column_of lower) (column_of upper))) c.self.view_is c.within_columns.ensures.answer)
