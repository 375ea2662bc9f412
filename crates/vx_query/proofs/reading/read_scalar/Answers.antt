use Rattle.serde_json.specs.View.{view}
use Rattle.vx_base.specs.TypeOf.{type_of, value_of}
use Rattle.vx_query.proofs.ReadScalars.{scalar-kept, scalar-read}
use Rattle.vx_query.proofs.reading.read_scalar.Goals as goal

pub returns-in-Ok-new : goal.returns-in-Ok-new
returns-in-Ok-new c =
    scalar-read c.args.nullability (type_of c.args.dtype.now) (type_of c.in-Ok.dtype) (view c.args.json) (value_of c.in_ok-value.value) (c.in-Ok.dtype, c.in_ok-value.value) c.in-Ok.ensures c.in_ok-value.ensures c.in-Ok-new.scalar c.in-Ok-new.ensures

pub returns-in-Err : goal.returns-in-Err
returns-in-Err c =
    absurd (scalar-kept c.args.nullability (type_of c.args.dtype.now) (type_of c.in-Ok.dtype) (view c.args.json) (value_of c.in_ok-value.value) (c.in-Ok.dtype, c.in_ok-value.value) c.in-Ok.ensures c.in_ok-value.ensures c.in-Err._refused c.in-Err.ensures)
