use Rattle.std.proofs.Common.{◌≡◌, ◌+◌, ◌*◌, ◌++◌, ℕ, List, [], map, drop}
use Rattle.std.specs.Fmt.{HasWritten, IsPlainFormatter}
use denote.Text.{Utf8}
use denote.Shadow.{shadow}
use Rattle.vx_base.specs.PlainType.{of_fields}
use Rattle.vx_base.specs.TypeOf.{type_of, field_of, fields_of}
use Rattle.vx_base.specs.TypeText.{fields_text}
use Rattle.vx_base.proofs.FallLemmas.{type_count, field_list_count}
use Rattle.vx_base.proofs.dtype.type_text.+texts.Given as goal

-- two for each type and each field, and one more where a call of the same comes first
abbrev pub decreases-write_base : goal.decreases-write_base
decreases-write_base g l = 2 * type_count (type_of l.dtype.now)

abbrev pub decreases-write_type : goal.decreases-write_type
decreases-write_type g l = 2 * type_count (type_of l.dtype.now) + 1

abbrev pub decreases-write_field : goal.decreases-write_field
decreases-write_field g l = 2 * type_count (type_of l.field.now.1) + 2

abbrev pub decreases-write_fields : goal.decreases-write_fields
decreases-write_fields g l = 2 * field_list_count (fields_of l.fields.now) + 1

-- what is written and what the rest writes yet are the whole text
abbrev pub invariant-write_fields-loop-field : goal.invariant-write_fields-loop-field
invariant-write_fields-loop-field g l =
    shadow (Utf8 l.before)
    × (IsPlainFormatter l.fn.f → (done : List ℕ) × HasWritten g.W.Write.write_str_gives l.fn.f done l.f
    × (done ++ fields_text l.before (of_fields (map field_of (drop l.field-index l.field-items))) ≡ fields_text [] (of_fields (fields_of l.fields))))
