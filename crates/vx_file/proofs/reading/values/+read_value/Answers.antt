use Rattle.std.proofs.Common.{rules, ◌≤◌, map, arith}
use Rattle.std.proofs.lemmas.List.{map_push}
use Rattle.vx_base.specs.PlainType.{of_fields}
use Rattle.vx_base.specs.PlainValue.{items, of_list}
use Rattle.vx_base.specs.TypeOf.{type_of, fields_of, value_of}
use Rattle.vx_spelling.specs.TypeSpelling.{field_types_depth}
use Rattle.vx_spelling.specs.ValueSpelling.{fields_at, value_at}
use Rattle.vx_codec.specs.Lists.{repeated_at}
use Rattle.vx_codec.proofs.Loops.{handed_on, repeated_end, repeated_next}
use Rattle.vx_file.proofs.ValueReading.{each_at, each_next, each_end, each_done, field_depth}
use Rattle.vx_file.proofs.reading.values.+read_value.Goals as goal

pub read_values-returns-in_err-value : goal.read_values-returns-in_err-value
read_values-returns-in_err-value t c =
    let p = (value_at (type_of c.args.dtype.now)) in
    let total = repeated_at p c.args.count c.args.bytes.now in
    handed_on (λ x. (x.0, x.1.now)) c.from_residual.result c.in_err-value.field-0.0 total c.from_residual.ensures.1
    (repeated_end p c.in_err-value.field-0.0 (map value_of c.loop.values.items) c.args.count c.loop.counter c.loop.rest.now total c.loop-test.true c.in_err-value.ensures c.loop.invariant)

pub read_values-loop-preserved : goal.read_values-loop-preserved
read_values-loop-preserved t c =
    let p = (value_at (type_of c.args.dtype.now)) in
    repeated_next p (map value_of c.loop.values.items) c.args.count c.loop.counter c.loop.rest.now (value_of c.in_ok-value.value) c.in_ok-value.after.now (repeated_at p c.args.count c.args.bytes.now) (map value_of c.push.new.self.items)
    c.loop-test.true c.in_ok-value.ensures (rw c.in_ok-push.ensures.items (map_push value_of c.loop.values.items c.in_ok-value.value)) c.loop.invariant

pub read_each-read_value-requires : goal.read_each-read_value-requires
read_each-read_value-requires t c =
    let d = field_depth (fields_of c.args.fields.now) c.loop-place.place (type_of c.field_type.result.now) c.field_type.ensures in
    let r : field_types_depth (of_fields (fields_of c.args.fields.now)) ≤ c.args.depth = c.requires in
    (search rules, omega (arith, d, r))

pub read_each-returns-in_err-value : goal.read_each-returns-in_err-value
read_each-returns-in_err-value t c =
    let fs = fields_of c.args.fields.now in
    handed_on (λ x. (of_list x.0, x.1.now)) c.from_residual.result c.in_err-value.field-0.0 (fields_at (of_fields fs) c.args.bytes.now) c.from_residual.ensures.1
    (each_end c.in_err-value.field-0.0 fs c.loop-place.place (type_of c.field_type.result.now) (map value_of c.loop-place.values.items) c.loop-place.rest.now c.args.bytes.now c.field_type.ensures c.in_err-value.ensures c.loop-place.invariant)

pub read_each-loop-place-preserved : goal.read_each-loop-place-preserved
read_each-loop-place-preserved t c =
    let fs = fields_of c.args.fields.now in
    each_next fs c.loop-place.place (type_of c.field_type.result.now) (map value_of c.loop-place.values.items) (map value_of c.push.new.self.items) c.loop-place.rest.now (value_of c.in_ok-value.value) c.in_ok-value.after.now (each_at fs c.args.bytes.now)
    c.field_type.ensures c.in_ok-value.ensures (rw c.in_ok-push.ensures.items (map_push value_of c.loop-place.values.items c.in_ok-value.value)) c.loop-place.invariant

pub read_each-returns : goal.read_each-returns
read_each-returns t c =
    rw c.from_vec.ensures
    (each_done (fields_of c.args.fields.now) c.loop-place.place (map value_of c.loop-place.values.items) c.loop-place.rest.now c.args.bytes.now (omega (arith, c.len-place-end.ensures, c.loop-place-test.false)) c.loop-place.invariant)
