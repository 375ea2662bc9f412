use Rattle.std.proofs.Common.{◌≡◌, ◌∙◌, ap, false, subst, sym, true}
use Rattle.vx_base.specs.PlainType.{same_base}
use Rattle.vx_base.specs.PlainType as types
use Rattle.vx_base.specs.TypeOf.{type_of}
use Rattle.vx_model.specs.Column.{column_of}
use Rattle.vx_model.specs.Rows.{rows}
use Rattle.vx_model.specs.Tree.{datetime_parts}
use Rattle.vx_model.specs.TreeType.{tree_type}
use Rattle.vx_rows.proofs.CastLemmas.{cast-mismatched}
use Rattle.vx_rules.specs.Conversions.{cast_refusal, casted}
use Rattle.vx_rules.specs.Outcomes.{Follows, outcome}
use Rattle.vx_datetime.proofs.CastParts.{other-type, recast}
use Rattle.vx_datetime.proofs.array.DateTimePartsArray.cast.Goals as goal

pub returns-then-not-are_alike-clause-answer : goal.returns-then-not-are_alike-clause-answer
returns-then-not-are_alike-clause-answer c =
    let p = c.parts-parts.result in
    let t = type_of c.args.dtype.now in
    let other : same_base (tree_type c.args.self.now) t ≡ false = ap (λ s. same_base s t) (sym (c.dtype.ensures ∙ ap tree_type c.self.view_is)) ∙ sym c.are_alike.ensures ∙ c.if-not-are_alike.true in
    cast-mismatched (column_of c.args.self.now) t (other-type c.args.self.now p.kind.now p.nullability p.days.now p.seconds.now p.subseconds.now t c.parts-parts.ensures.tree other)

pub returns-clause-answer : goal.returns-clause-answer
returns-clause-answer c =
    let p = c.parts-parts.result in
    let t = type_of c.args.dtype.now in
    let own = datetime_parts p.kind.now p.nullability p.days.now p.seconds.now p.subseconds.now in
    let is = c.parts-parts.ensures.tree in
    let same : same_base (types.timestamp p.kind.now p.nullability) t ≡ true = ap (λ x. same_base (tree_type x) t) (sym is) ∙ ap (λ s. same_base s t) (sym (c.dtype.ensures ∙ ap tree_type c.self.view_is)) ∙ sym c.are_alike.ensures ∙ c.if-not-are_alike.false in
    subst (λ x. Follows (outcome (cast_refusal (column_of x) t) (casted (column_of x) t)) (λ out k. column_of out ≡ k) c.recast_parts.result) (sym is)
    (recast p.kind.now p.nullability c.nullability.result (rows own) t c.recast_parts.result same c.nullability.ensures c.recast_parts.ensures.answer)
