use Rattle.std.proofs.Common.{◌≡◌, ◌*◌, ◌+◌, ◌++◌, map, drop}
use Rattle.vx_base.specs.PlainType.{of_fields}
use Rattle.vx_base.specs.TypeOf.{field_of, fields_of}
use Rattle.vx_spelling.specs.TypeSpelling.{field_types_body}
use Rattle.vx_file.proofs.writing.types.+put_type.Given as goal

abbrev pub decreases-put_type : goal.decreases-put_type
decreases-put_type l = 3 * l.limit

abbrev pub decreases-put_field : goal.decreases-put_field
decreases-put_field l = 3 * l.limit + 1

abbrev pub decreases-put_fields : goal.decreases-put_fields
decreases-put_fields l = 3 * l.limit + 2

-- what is written and what the rest writes yet are all fields
abbrev pub invariant-put_fields-loop-field : goal.invariant-put_fields-loop-field
invariant-put_fields-loop-field l = l.out.items ++ field_types_body (of_fields (map field_of (drop l.field-index l.field-items))) ≡ l.fn.out.items ++ field_types_body (of_fields (fields_of l.fields))
