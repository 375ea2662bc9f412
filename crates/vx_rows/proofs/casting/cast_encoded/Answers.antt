use Rattle.std.proofs.Common.{◌∙◌, ap, subst}
use Rattle.vx_base.specs.PlainType.{is_integer}
use Rattle.vx_base.specs.PlainType as types
use Rattle.vx_model.specs.Rows.{rows}
use Rattle.vx_rows.specs.Casting.{IsCast}
use Rattle.vx_rows.proofs.CastLemmas.{cast-forgone}
use Rattle.vx_rows.proofs.casting.cast_encoded.Goals as goal

pub cast_plain-requires-clause-integer : goal.cast_plain-requires-clause-integer
cast_plain-requires-clause-integer c = ap (λ k. is_integer k.dtype) c.in-Ok.ensures.kept ∙ c.requires

pub returns-in-Ok : goal.returns-in-Ok
returns-in-Ok c = subst (λ k. IsCast (types.primitive c.args.ptype c.args.nullability) k.values c.cast_plain.result) c.in-Ok.ensures.kept c.cast_plain.ensures

pub returns-in-Err : goal.returns-in-Err
returns-in-Err c = cast-forgone (types.primitive c.args.ptype c.args.nullability) (rows c.args.array.now) c.in-Err.error c.in-Err.ensures.kept
