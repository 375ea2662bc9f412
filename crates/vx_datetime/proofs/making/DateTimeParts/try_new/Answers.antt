use Rattle.std.proofs.Common.{◌≡◌, ◌∙◌, sym, ap}
use Rattle.vx_base.specs.declared.dtype.DType.TheVariants as variants
use Rattle.vx_base.specs.PlainType as types
use Rattle.vx_base.specs.TypeOf.{type_of}
use Rattle.vx_model.specs.Refusals.{datetime_parts_refusal}
use Rattle.vx_datetime.proofs.PartsTrees.{made-err, made-root, type_of-Timestamp}
use Rattle.vx_datetime.proofs.making.DateTimeParts.try_new.Goals as goal

pub invariant_of-result : goal.invariant_of-result
invariant_of-result c =
    made-root (datetime_parts_refusal c.in-Ok.kind c.in-Ok.nullability c.args.days c.args.seconds c.args.subseconds) c.in-Ok.kind c.in-Ok.nullability c.args.days c.args.seconds c.args.subseconds _ c.in-Ok-datetime_parts.array c.in-Ok-datetime_parts.ensures

pub returns-in-Err-datetime_parts : goal.returns-in-Err-datetime_parts
returns-in-Err-datetime_parts c =
    let k = c.in-Ok.kind in
    let n = c.in-Ok.nullability in
    let f = c.in-Err-datetime_parts.refused in
    let is : c.args.dtype ≡ variants.Timestamp k n = c.in-Ok.ensures in
    let typed : type_of c.args.dtype ≡ types.timestamp k n = ap type_of is ∙ type_of-Timestamp k n in
    made-err (type_of c.args.dtype) k n c.args.days c.args.seconds c.args.subseconds typed (c.args.dtype, c.args.days, c.args.seconds, c.args.subseconds) f
    (variants.Timestamp f.inputs.0 n, f.inputs.1, f.inputs.2, f.inputs.3) c.in-Err-datetime_parts.ensures
    (λ same. let stamped : variants.Timestamp f.inputs.0 n ≡ c.args.dtype = ap (λ q. variants.Timestamp q.0 n) same ∙ sym is in λ i. (stamped i, (same i).1, (same i).2, (same i).3))
