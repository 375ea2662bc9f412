use Rattle.std.proofs.Common.{◌≡◌, ◌∙◌, ap, subst, sym, Ok, Err}
use Rattle.std.specs.List.{list_all}
use Rattle.vx_base.specs.declared.error.VortexError.TheVariants.{CastRefused}
use Rattle.vx_base.specs.Answers.{unless}
use Rattle.vx_base.specs.PlainScalar.{fits}
use Rattle.vx_base.specs.PlainType.{integer_of}
use Rattle.vx_base.specs.PlainType as types
use Rattle.vx_base.specs.TypeOf.{type_of}
use Rattle.std.specs.Prelude.{None}
use Rattle.vx_model.specs.Column.{column, column_of}
use Rattle.vx_model.specs.Rows.{rows}
use Rattle.vx_model.specs.Tree.{datetime_parts}
use Rattle.vx_model.specs.TreeType.{tree_type}
use Rattle.vx_rules.specs.Conversions.{cast_refusal, casted}
use Rattle.vx_rules.specs.Outcomes.{Follows, outcome}
use Rattle.vx_datetime.proofs.CastParts.{days-refused, follows-err, follows-ok, or-follows}
use Rattle.vx_datetime.proofs.kernels.recast.recast_parts.Goals as goal

pub recast_over-requires-clause-days : goal.recast_over-requires-clause-days
recast_over-requires-clause-days c =
    let days = c.args.parts.now.days.now in
    let to = types.primitive (integer_of (tree_type days)) c.args.nullability in
    let is : type_of c.primitive-dtype.result ≡ to = c.primitive-dtype.ensures ∙ ap (λ p. types.primitive p c.args.nullability) (c.ptype.ensures ∙ ap integer_of c.dtype.ensures) in
    let own = subst (λ t. Follows (outcome (cast_refusal (column_of days) t) (casted (column_of days) t)) (λ out k. column_of out ≡ k) (Ok c.in-Ok.days)) is c.in-Ok.ensures.answer in
    (follows-ok (cast_refusal (column_of days) to) (casted (column_of days) to) c.in-Ok.days own).1

pub returns-in-Ok-clause-answer : goal.returns-in-Ok-clause-answer
returns-in-Ok-clause-answer c =
    let p = c.args.parts.now in
    let days = p.days.now in
    let n = c.args.nullability in
    let vs = rows (datetime_parts p.kind.now p.nullability p.days.now p.seconds.now p.subseconds.now) in
    let to = types.primitive (integer_of (tree_type days)) n in
    let is : type_of c.primitive-dtype.result ≡ to = c.primitive-dtype.ensures ∙ ap (λ q. types.primitive q n) (c.ptype.ensures ∙ ap integer_of c.dtype.ensures) in
    let own = subst (λ t. Follows (outcome (cast_refusal (column_of days) t) (casted (column_of days) t)) (λ out k. column_of out ≡ k) (Ok c.in-Ok.days)) is c.in-Ok.ensures.answer in
    let accepted = (follows-ok (cast_refusal (column_of days) to) (casted (column_of days) to) c.in-Ok.days own).0 in
    or-follows (unless (list_all (fits (types.timestamp p.kind.now n)) vs) CastRefused None) (column (types.timestamp p.kind.now n) vs) c.recast_over.result
    (sym (days-refused p.kind.now p.nullability n p.days.now p.seconds.now p.subseconds.now c.requires.well) ∙ accepted) c.recast_over.ensures

pub returns-clause-answer : goal.returns-clause-answer
returns-clause-answer c =
    let p = c.args.parts.now in
    let days = p.days.now in
    let n = c.args.nullability in
    let vs = rows (datetime_parts p.kind.now p.nullability p.days.now p.seconds.now p.subseconds.now) in
    let to = types.primitive (integer_of (tree_type days)) n in
    let is : type_of c.primitive-dtype.result ≡ to = c.primitive-dtype.ensures ∙ ap (λ q. types.primitive q n) (c.ptype.ensures ∙ ap integer_of c.dtype.ensures) in
    let own = subst (λ t. Follows (outcome (cast_refusal (column_of days) t) (casted (column_of days) t)) (λ out k. column_of out ≡ k) (Err c.in-Err.error)) is c.in-Err.ensures.answer in
    follows-err (cast_refusal (column_of days) to) (unless (list_all (fits (types.timestamp p.kind.now n)) vs) CastRefused None) (casted (column_of days) to) (column (types.timestamp p.kind.now n) vs) c.in-Err.error
    (days-refused p.kind.now p.nullability n p.days.now p.seconds.now p.subseconds.now c.requires.well) own
