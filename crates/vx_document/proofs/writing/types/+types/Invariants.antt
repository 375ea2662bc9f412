use Rattle.std.proofs.Common.{◌≡◌, ◌+◌, ◌*◌, ◌++◌, [], map, drop}
use Rattle.std.specs.Prelude.{codes}
use denote.Text.{Utf8}
use denote.Shadow.{shadow}
use Rattle.vx_base.specs.PlainType.{of_fields}
use Rattle.vx_base.specs.TypeOf.{type_of, field_of, fields_of}
use Rattle.vx_base.proofs.FallLemmas.{type_count, field_list_count}
use Rattle.vx_document.specs.CappedText.{put}
use Rattle.vx_document.specs.Writing.{fields_json}
use Rattle.vx_document.proofs.writing.types.+types.Given as goal

-- two for each type and each field, and one more where a call of the same comes first
abbrev pub decreases-push_type : goal.decreases-push_type
decreases-push_type l = 2 * type_count (type_of l.dtype.now)

abbrev pub decreases-push_structs : goal.decreases-push_structs
decreases-push_structs l = 2 * field_list_count (fields_of l.fields.now)

abbrev pub decreases-push_field : goal.decreases-push_field
decreases-push_field l = 2 * type_count (type_of l.field.now.1) + 1

-- what the rest adds yet leads to the whole text
abbrev pub invariant-push_structs-loop-field : goal.invariant-push_structs-loop-field
invariant-push_structs-loop-field l = record {
  before_text : shadow (Utf8 l.before);
  text : put l.text (fields_json l.before (of_fields (map field_of (drop l.field-index l.field-items)))) ≡ put l.fn.text (codes "{\"struct\":[" ++ fields_json [] (of_fields (fields_of l.fields)));
}
