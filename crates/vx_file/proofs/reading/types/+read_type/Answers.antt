use Rattle.std.proofs.Common.{map, arith}
use Rattle.std.proofs.lemmas.List.{map_push}
use Rattle.vx_base.specs.TypeOf.{field_of}
use Rattle.vx_codec.specs.Format.{both}
use Rattle.vx_spelling.specs.Fields.{name}
use Rattle.vx_spelling.specs.TypeSpelling.{type_at, types_by}
use Rattle.vx_codec.specs.Lists.{repeated_at}
use Rattle.vx_codec.proofs.Loops.{handed_on, repeated_end, repeated_next}
use Rattle.vx_file.proofs.TypeReading.{type_found}
use Rattle.vx_file.proofs.reading.types.+read_type.Goals as goal

pub read_type-returns : goal.read_type-returns
read_type-returns t c = rw (type_found c.args.depth c.args.bytes.now c.in_ok-kind.kind c.in_ok-kind.rest.now (omega arith) c.in_ok-kind.ensures) c.read_behind.ensures

pub read_each_field-returns-in_err-field : goal.read_each_field-returns-in_err-field
read_each_field-returns-in_err-field t c =
    let p = (both name (types_by (type_at c.args.depth))).parse in
    let total = repeated_at p c.args.count c.args.bytes.now in
    handed_on (λ x. (map field_of x.0.items, x.1.now)) c.from_residual.result c.in_err-field.field-0.0 total c.from_residual.ensures.1
    (repeated_end p c.in_err-field.field-0.0 (map field_of c.loop.fields.items) c.args.count c.loop.counter c.loop.rest.now total c.loop-test.true c.in_err-field.ensures c.loop.invariant)

pub read_each_field-loop-preserved : goal.read_each_field-loop-preserved
read_each_field-loop-preserved t c =
    let p = (both name (types_by (type_at c.args.depth))).parse in
    repeated_next p (map field_of c.loop.fields.items) c.args.count c.loop.counter c.loop.rest.now (field_of c.in_ok-field.field) c.in_ok-field.after.now (repeated_at p c.args.count c.args.bytes.now) (map field_of c.push.new.self.items)
    c.loop-test.true c.in_ok-field.ensures (rw c.in_ok-push.ensures.items (map_push field_of c.loop.fields.items c.in_ok-field.field)) c.loop.invariant
