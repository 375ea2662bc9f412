use Rattle.std.proofs.Common.{◌≡◌, ◌*◌, ◌+◌, map, drop}
use Rattle.vx_base.specs.PlainType.{of_fields}
use Rattle.vx_base.specs.TypeOf.{type_of, value_of, field_of, fields_of}
use Rattle.vx_base.proofs.FallLemmas.{type_count, field_list_count}
use Rattle.vx_model.specs.Column.{column}
use Rattle.vx_model.specs.Extents.{field_counts}
use Rattle.vx_model.specs.Nested.{struct_rows}
use Rattle.vx_flat.specs.Ways.{way_of, column_at, are_few}
use Rattle.vx_flat.proofs.FewWayLemmas.{behind}
use Rattle.vx_flat.proofs.counting.+inner.Given as goal

-- two for each type and each field, and one more where a call of the same comes first
abbrev pub decreases-inner_fit : goal.decreases-inner_fit
decreases-inner_fit l = 2 * type_count (type_of l.inner.now)

abbrev pub decreases-field_fits : goal.decreases-field_fits
decreases-field_fits l = 2 * type_count (type_of l.inner.now.1) + 1

abbrev pub decreases-items_fit : goal.decreases-items_fit
decreases-items_fit l = 2 * type_count (type_of l.items.now) + 1

abbrev pub decreases-fields_fit : goal.decreases-fields_fit
decreases-fields_fit l = 2 * field_list_count (fields_of l.fields.now)

-- the fields that are left decide
abbrev pub invariant-fields_fit-loop-place : goal.invariant-fields_fit-loop-place
invariant-fields_fit-loop-place l =
    let rows = struct_rows (of_fields (fields_of l.fields-2)) (column_at (way_of l.way) (column (type_of l.dtype) (map value_of l.values))).values in
    are_few l.times (field_counts (of_fields (map field_of (drop l.place l.fields))) (behind l.place rows)) ≡ are_few l.times (field_counts (of_fields (fields_of l.fields-2)) rows)
