use Rattle.std.proofs.Common.{arith, ap, ◌∙◌, ◌^◌, ◌-◌, min, List, ℕ}
use Rattle.vx_base.specs.declared.dtype.DType.{DType}
use Rattle.vx_base.specs.PlainType.{of_fields}
use Rattle.vx_base.specs.PlainValue.{of_list, list_count}
use Rattle.vx_base.specs.TypeOf.{type_of, value_of}
use Rattle.vx_base.proofs.FallLemmas.{value_falls}
use Rattle.vx_model.specs.Size.{payload, fields_payload}
use Rattle.vx_flat.proofs.Payloads.{items_payload-next, fields_payload-next, fields_payload-all}
use Rattle.vx_flat.proofs.payload.+payload.Goals as goal

pub field_bytes-payload_bytes-requires : goal.field_bytes-payload_bytes-requires
field_bytes-payload_bytes-requires t c =
    let falls = value_falls c.as_slice-values.result.now c.loop-place.place c.index-values-place.result (omega arith) c.index-values-place.is in
    let count = ap list_count c.as_slice-values.ensures in
    (omega arith, tt)

pub field_bytes-loop-place-preserved : goal.field_bytes-loop-place-preserved
field_bytes-loop-place-preserved t c =
    let next = fields_payload-next c.as_slice-fields.result.now c.as_slice-values.result.now c.loop-place.place c.index-fields-place.result c.index-values-place.result (omega arith) (omega arith) c.index-fields-place.is c.index-values-place.is in
    let same = ap (λ (f : List ℕ × DType). payload (type_of f.1) (value_of c.index-values-place.result)) c.index-fields-place.is in
    omega (arith, c.loop-place.invariant, c.payload_bytes.ensures, next, same)

pub field_bytes-returns : goal.field_bytes-returns
field_bytes-returns t c =
    let fs = c.as_slice-fields.result.now in
    let vs = c.as_slice-values.result.now in
    c.loop-place.invariant ∙ ap (λ n. min n (2 ^ 128 - 1)) (fields_payload-all fs vs c.loop-place.place (omega arith) ∙ (λ i. fields_payload (of_fields (c.as_slice-fields.ensures i)) (of_list (c.as_slice-values.ensures i))))

pub item_bytes-payload_bytes-requires : goal.item_bytes-payload_bytes-requires
item_bytes-payload_bytes-requires t c =
    let falls = value_falls c.as_slice-value-items.result.now c.loop-value.value-index c.value-item.result (omega arith) c.value-item.is in
    let count = ap list_count c.as_slice-value-items.ensures in
    (omega arith, tt)

pub item_bytes-loop-value-preserved : goal.item_bytes-loop-value-preserved
item_bytes-loop-value-preserved t c =
    let next = items_payload-next (type_of c.args.items.now) c.as_slice-value-items.result.now c.loop-value.value-index c.value-item.result (omega arith) c.value-item.is in
    omega (arith, c.loop-value.invariant, c.payload_bytes.ensures, next)
