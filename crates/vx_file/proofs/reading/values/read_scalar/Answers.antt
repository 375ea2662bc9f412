use Rattle.std.proofs.Common.{refl}
use Rattle.vx_base.specs.PlainScalar.{scalar}
use Rattle.vx_base.specs.TypeOf.{type_of, value_of}
use Rattle.vx_spelling.proofs.TypeLaws.{type_lawful}
use Rattle.vx_file.proofs.ValueReading.{scalar_made, scalar_refused}
use Rattle.vx_file.proofs.reading.values.read_scalar.Goals as goal

pub read_value-requires : goal.read_value-requires
read_value-requires c = ((type_lawful 64).canonical c.args.bytes.now (type_of c.in_ok-dtype.dtype, c.in_ok-dtype.rest.now) c.in_ok-dtype.ensures).1.0

pub returns-in-Ok : goal.returns-in-Ok
returns-in-Ok c =
    let t = type_of c.in_ok-dtype.dtype in
    let v = value_of c.in_ok-value.value in
    let made = scalar_made t v (scalar t v) (c.in_ok-dtype.dtype, c.in_ok-value.value) c.in-Ok.scalar c.in-Ok.ensures in
    rw (c.in_ok-dtype.ensures, c.in_ok-value.ensures, made.0, made.1) refl

pub returns : goal.returns
returns c =
    let t = type_of c.in_ok-dtype.dtype in
    let v = value_of c.in_ok-value.value in
    let refused = scalar_refused t v (scalar t v) (c.in_ok-dtype.dtype, c.in_ok-value.value) c.in-Err.field-0 c.in-Err.ensures in
    rw (c.in_ok-dtype.ensures, c.in_ok-value.ensures, refused) refl
