use Rattle.vx_base.specs.TypeOf.{type_of}
use Rattle.vx_model.specs.Rows.{rows}
use Rattle.vx_rows.proofs.CastLemmas.{cast-forgone}
use Rattle.vx_rows.proofs.casting.nullability.cast_nullability.Goals as goal

pub returns-in-Err : goal.returns-in-Err
returns-in-Err c = cast-forgone (type_of c.args.dtype.now) (rows c.args.array.now) c.in-Err.error c.in-Err.ensures
