use Rattle.std.proofs.Common.{◌≡◌, ◌*◌, ◌+◌, map, drop}
use Rattle.std.specs.List.{list_all}
use Rattle.vx_base.specs.PlainType.{of_fields}
use Rattle.vx_base.specs.TypeOf.{type_of, field_of, fields_of}
use Rattle.vx_base.proofs.FallLemmas.{type_count, field_list_count}
use Rattle.vx_array.specs.TreeWays.{by_fields, extent_at}
use Rattle.vx_flat.specs.Ways.{way_of, field, turned}
use Rattle.vx_document.specs.Writing.{is_few}
use Rattle.vx_document.proofs.writing.extents.+columns.Given as goal

-- two for each type and each field, and one more where a call of the same comes first
abbrev pub decreases-columns_are_few : goal.decreases-columns_are_few
decreases-columns_are_few l = 2 * type_count (type_of l.inner.now)

abbrev pub decreases-field_is_few : goal.decreases-field_is_few
decreases-field_is_few l = 2 * type_count (type_of l.inner.now.1) + 1

abbrev pub decreases-fields_are_few : goal.decreases-fields_are_few
decreases-fields_are_few l = 2 * field_list_count (fields_of l.fields.now)

-- the fields that are left decide
abbrev pub invariant-fields_are_few-loop-place : goal.invariant-fields_are_few-loop-place
invariant-fields_are_few-loop-place l =
    list_all is_few (by_fields (of_fields (map field_of (drop l.place l.fields))) (λ k w. extent_at (turned (way_of l.way) (field (l.place + k) w)) l.tree))
    ≡ list_all is_few (by_fields (of_fields (fields_of l.fields-2)) (λ i w. extent_at (turned (way_of l.way) (field i w)) l.tree))
