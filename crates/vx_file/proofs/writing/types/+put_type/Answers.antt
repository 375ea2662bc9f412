use Rattle.std.proofs.Common.{◌∙◌, rules, ap, arith}
use Rattle.std.proofs.lemmas.Result.{on_ok_weaker}
use Rattle.vx_base.specs.TypeOf.{type_of, fields_of}
use Rattle.vx_base.specs.PlainType.{of_fields}
use Rattle.vx_base.proofs.FieldLemmas.{type_of-Struct, type_of-FixedSizeList}
use Rattle.vx_spelling.specs.TypeSpelling.{field_types_depth}
use Rattle.vx_values.proofs.Types.{type_of-List}
use Rattle.vx_file.proofs.Steps.{two_parts, three_parts, part_more}
use Rattle.vx_file.proofs.TypeSteps.{field_depth, fields_text_more, text-structure, text-list, text-fixed_size_list}
use Rattle.vx_file.proofs.writing.types.+put_type.Goals as goal

pub put_fields-put_field-requires : goal.put_fields-put_field-requires
put_fields-put_field-requires t c =
    let d = field_depth c.as_slice-field-items.result.now c.loop-field.field-index c.field-item.result (omega arith) c.field-item.is in
    let all = ap (λ fs. field_types_depth (of_fields fs)) c.as_slice-field-items.ensures in
    (search rules, omega (arith, d, all, c.requires))

pub put_fields-loop-field-preserved : goal.put_fields-loop-field-preserved
put_fields-loop-field-preserved t c =
    part_more _ _ _ _ _ _ c.in_ok-put_field.ensures (fields_text_more c.as_slice-field-items.result.now c.loop-field.field-index c.field-item.result (omega arith) c.field-item.is) c.loop-field.invariant

pub put_type-returns-in_ok-put_varint-in-Struct : goal.put_type-returns-in_ok-put_varint-in-Struct
put_type-returns-in_ok-put_varint-in-Struct t c =
    let at = c.in-Struct in
    let text = text-structure (type_of c.args.dtype.now) (fields_of at.fields) at.nullability c.len.result (ap type_of at.is ∙ type_of-Struct at.fields at.nullability) c.len.ensures in
    on_ok_weaker c.put_fields.result (λ e. three_parts _ _ _ _ _ _ _ _ c.in_ok-put_head-in-Struct.ensures c.in_ok-put_varint-in-Struct.ensures e text) c.put_fields.ensures

pub put_type-returns-in_ok-put_head-in-List : goal.put_type-returns-in_ok-put_head-in-List
put_type-returns-in_ok-put_head-in-List t c =
    let at = c.in-List in
    let text = text-list (type_of c.args.dtype.now) (type_of at.items.value) (type_of c.deref.result.now) at.nullability (ap type_of at.is ∙ type_of-List at.items at.nullability) (ap type_of c.deref.ensures) in
    on_ok_weaker c.put_type.result (λ e. two_parts _ _ _ _ _ _ c.in_ok-put_head-in-List.ensures e text) c.put_type.ensures

pub put_type-returns-in_ok-put_varint-in-FixedSizeList : goal.put_type-returns-in_ok-put_varint-in-FixedSizeList
put_type-returns-in_ok-put_varint-in-FixedSizeList t c =
    let at = c.in-FixedSizeList in
    let text = text-fixed_size_list (type_of c.args.dtype.now) (type_of at.items.value) (type_of c.deref-in-FixedSizeList.result.now) at.size c.from.result at.nullability (ap type_of at.is ∙ type_of-FixedSizeList at.items at.size at.nullability)
    (ap type_of c.deref-in-FixedSizeList.ensures) c.from.ensures in
    on_ok_weaker c.put_type-in-FixedSizeList.result (λ e. three_parts _ _ _ _ _ _ _ _ c.in_ok-put_head-in-FixedSizeList.ensures c.in_ok-put_varint-in-FixedSizeList.ensures e text) c.put_type-in-FixedSizeList.ensures
