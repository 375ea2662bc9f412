use Rattle.std.proofs.Common.{◌∙◌, ap, sym}
use Rattle.vx_base.specs.Casts.{is_cast}
use Rattle.vx_base.specs.TypeOf.{type_of}
use Rattle.vx_model.specs.Column.{column_of}
use Rattle.vx_rows.proofs.CastLemmas.{cast-follows, cast-mismatched}
use Rattle.vx_rows.proofs.casting.cast.Goals as goal

pub returns-then-not-is_cast-clause-answer : goal.returns-then-not-is_cast-clause-answer
returns-then-not-is_cast-clause-answer c =
    let t = type_of c.args.dtype.now in
    cast-mismatched (column_of c.args.array.now) t (ap (λ s. is_cast s t) (sym c.dtype.ensures) ∙ sym c.is_cast.ensures ∙ c.if-not-is_cast.true)

pub cast_by_type-requires : goal.cast_by_type-requires
cast_by_type-requires c = ap (λ s. is_cast s (type_of c.args.dtype.now)) (sym c.dtype.ensures) ∙ sym c.is_cast.ensures ∙ c.if-not-is_cast.false

pub returns-clause-answer : goal.returns-clause-answer
returns-clause-answer c =
    let t = type_of c.args.dtype.now in
    cast-follows (column_of c.args.array.now) t c.cast_by_type.result (ap (λ s. is_cast s t) (sym c.dtype.ensures) ∙ sym c.is_cast.ensures ∙ c.if-not-is_cast.false) c.cast_by_type.ensures
