use Rattle.std.proofs.Common.{◌≡◌, ◌*◌, ◌+◌, ◌++◌, length, map, drop, true}
use Rattle.vx_base.specs.PlainScalar.{list_fits, field_list_fits}
use Rattle.vx_base.specs.PlainType.{of_fields}
use Rattle.vx_base.specs.PlainValue.{of_list}
use Rattle.vx_base.specs.TypeOf.{type_of, value_of, field_of, fields_of}
use Rattle.vx_spelling.specs.ValueSpelling.{each_field_text, each_text}
use Rattle.vx_file.proofs.writing.values.+put_value.Given as goal

abbrev pub decreases-put_content : goal.decreases-put_content
decreases-put_content l = 3 * l.limit

abbrev pub decreases-put_value : goal.decreases-put_value
decreases-put_value l = 3 * l.limit + 1

abbrev pub decreases-put_each_field : goal.decreases-put_each_field
decreases-put_each_field l = 3 * l.limit + 2

abbrev pub decreases-put_each : goal.decreases-put_each
decreases-put_each l = 3 * l.limit + 2

-- what is written and what the rest writes yet are all values
abbrev pub invariant-put_each-loop-value : goal.invariant-put_each-loop-value
invariant-put_each-loop-value l = record {
  fitting : list_fits (type_of l.dtype) (map value_of (drop l.value-index l.value-items)) ≡ true;
  text : l.out.items ++ each_text (of_list (map value_of (drop l.value-index l.value-items))) (type_of l.dtype) ≡ l.fn.out.items ++ each_text (of_list l.values) (type_of l.dtype);
}

abbrev pub invariant-put_each_field-loop-place : goal.invariant-put_each_field-loop-place
invariant-put_each_field-loop-place l = record {
  lengths : length l.fields ≡ length l.values;
  fitting : field_list_fits (map field_of (drop l.place l.fields)) (map value_of (drop l.place l.values)) ≡ true;
  text : l.out.items ++ each_field_text (of_list (map value_of (drop l.place l.values))) (of_fields (map field_of (drop l.place l.fields))) ≡ l.fn.out.items ++ each_field_text (of_list l.values-2) (of_fields (fields_of l.fields-2));
}
