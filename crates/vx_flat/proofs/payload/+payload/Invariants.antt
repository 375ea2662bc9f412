use Rattle.std.proofs.Common.{◌≡◌, ◌+◌, ◌*◌, ◌^◌, ◌-◌, min, map, take}
use Rattle.vx_base.specs.PlainType.{of_fields}
use Rattle.vx_base.specs.PlainValue.{of_list, value_count, list_count}
use Rattle.vx_base.specs.TypeOf.{type_of, value_of, field_of}
use Rattle.vx_model.specs.Size.{fields_payload, items_payload}
use Rattle.vx_flat.proofs.payload.+payload.Given as goal

-- two for each value, and one more where a call of the same comes first
abbrev pub decreases-payload_bytes : goal.decreases-payload_bytes
decreases-payload_bytes l = 2 * value_count (value_of l.value.now)

abbrev pub decreases-bytes_within : goal.decreases-bytes_within
decreases-bytes_within l = 2 * list_count l.values.now + 1

abbrev pub decreases-field_bytes : goal.decreases-field_bytes
decreases-field_bytes l = 2 * list_count l.values.now

abbrev pub decreases-item_bytes : goal.decreases-item_bytes
decreases-item_bytes l = 2 * list_count l.values.now

abbrev pub invariant-field_bytes-loop-place : goal.invariant-field_bytes-loop-place
invariant-field_bytes-loop-place l = l.sum ≡ min (fields_payload (of_fields (map field_of (take l.place l.fields))) (of_list (map value_of l.values))) (2 ^ 128 - 1)

abbrev pub invariant-item_bytes-loop-value : goal.invariant-item_bytes-loop-value
invariant-item_bytes-loop-value l = l.sum ≡ min (items_payload (type_of l.items) (of_list (map value_of (take l.value-index l.value-items)))) (2 ^ 128 - 1)
