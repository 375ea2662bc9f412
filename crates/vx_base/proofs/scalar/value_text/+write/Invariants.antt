use Rattle.std.proofs.Common.{◌≡◌, ◌++◌, [], map, drop, length, string_bytes, true}
use Rattle.std.specs.Prelude.{codes}
use denote.Text.{Utf8}
use denote.Shadow.{shadow}
use Rattle.vx_base.specs.PlainScalar.{list_fits, field_list_fits}
use Rattle.vx_base.specs.PlainType.{of_fields}
use Rattle.vx_base.specs.PlainValue.{of_list, value_count, list_count}
use Rattle.vx_base.specs.TypeOf.{type_of, value_of, field_of, fields_of}
use Rattle.vx_base.specs.TypeText.{items_text, field_values_text}
use Rattle.vx_base.proofs.scalar.value_text.+write.Given as goal

abbrev pub decreases-write_value : goal.decreases-write_value
decreases-write_value l = value_count (value_of l.value.now)

abbrev pub decreases-write_fields : goal.decreases-write_fields
decreases-write_fields l = list_count l.values.now

abbrev pub decreases-write_items : goal.decreases-write_items
decreases-write_items l = list_count l.values.now

-- what the rest adds yet leads to the whole text
abbrev pub invariant-write_fields-loop-place : goal.invariant-write_fields-loop-place
invariant-write_fields-loop-place l = record {
  before_text : shadow (Utf8 l.before);
  lengths : length l.fields ≡ length l.values;
  fitting : field_list_fits (map field_of (drop l.place l.fields)) (map value_of (drop l.place l.values)) ≡ true;
  text : string_bytes l.text ++ field_values_text l.before (of_fields (map field_of (drop l.place l.fields))) (of_list (map value_of (drop l.place l.values))) ≡ string_bytes l.fn.text ++ codes "[" ++ field_values_text [] (of_fields (fields_of l.fields-2)) (of_list l.values-2);
}

abbrev pub invariant-write_items-loop-value : goal.invariant-write_items-loop-value
invariant-write_items-loop-value l = record {
  before_text : shadow (Utf8 l.before);
  fitting : list_fits (type_of l.items) (map value_of (drop l.value-index l.value-items)) ≡ true;
  text : string_bytes l.text ++ items_text l.before (type_of l.items) (of_list (map value_of (drop l.value-index l.value-items))) ≡ string_bytes l.fn.text ++ codes "[" ++ items_text [] (type_of l.items) (of_list l.values);
}
