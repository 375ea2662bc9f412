use Rattle.std.proofs.Common.{rules, arith, ap, sym, ◌∙◌, ◌++◌, [], length}
use Rattle.std.proofs.lemmas.List.{length-map}
use Rattle.vx_base.specs.PlainScalar.{field_list_fits}
use Rattle.vx_base.specs.PlainType.{of_fields}
use Rattle.vx_base.specs.PlainValue.{of_list, list_count}
use Rattle.vx_base.specs.TypeOf.{type_of, value_of, field_of, fields_of}
use Rattle.vx_base.specs.TypeText.{field_values_text}
use Rattle.vx_base.proofs.FallLemmas.{value_falls}
use Rattle.vx_base.proofs.FieldLemmas.{type_of-Utf8}
use Rattle.vx_base.proofs.StepLemmas.{item_fits, field_fits, items_text_more, field_values_text_more, written_more}
use Rattle.vx_base.proofs.Utf8Lemmas.{utf8-fitted}
use Rattle.vx_base.proofs.WithinLemmas.{fields_fit-length}
use Rattle.vx_base.proofs.scalar.value_text.+write.Goals as goal

pub write_value-text_of-requires : goal.write_value-text_of-requires
write_value-text_of-requires t c =
    let at = c.in-Bytes-Utf8 in
    rw c.as_slice.ensures (utf8-fitted (type_of c.args.dtype.now) (value_of c.args.value.now) at.field-0-1 at.bytes c.requires.fitting (ap type_of at.is-1 ∙ type_of-Utf8 at.field-0-1) (ap value_of at.is-0))

pub write_fields-loop-place-init : goal.write_fields-loop-place-init
write_fields-loop-place-init t c =
    let all = fields_fit-length (fields_of c.args.fields.now) c.args.values.now c.requires.fitting in
    record {
      before_text = search rules;
      lengths = sym (length-map c.as_slice-fields.result.now field_of) ∙ ap length c.as_slice-fields.ensures ∙ all ∙ sym (ap length c.as_slice-values.ensures) ∙ length-map c.as_slice-values.result.now value_of;
      fitting = (λ i. field_list_fits (c.as_slice-fields.ensures i) (c.as_slice-values.ensures i)) ∙ c.requires.fitting;
      text = λ i. c.in_ok-push_str.ensures.bytes i ++ field_values_text [] (of_fields (c.as_slice-fields.ensures i)) (of_list (c.as_slice-values.ensures i));
    }

pub write_fields-write_value-requires : goal.write_fields-write_value-requires
write_fields-write_value-requires t c =
    let falls = value_falls c.as_slice-values.result.now c.loop-place.place c.index-values-place.result (omega arith) c.index-values-place.is in
    let count = ap list_count c.as_slice-values.ensures in
    (omega arith, (field_fits c.as_slice-fields.result.now c.as_slice-values.result.now c.loop-place.place c.index-fields-place.result c.index-values-place.result (omega arith) (omega arith) c.index-values-place.is c.loop-place.invariant.fitting).0)

pub write_fields-loop-place-preserved : goal.write_fields-loop-place-preserved
write_fields-loop-place-preserved t c =
    let fs = c.as_slice-fields.result.now in
    let vs = c.as_slice-values.result.now in
    let f = c.index-fields-place.result in
    let v = c.index-values-place.result in
    let i = c.loop-place.place in
    let parts = field_fits fs vs i f v (omega arith) (omega arith) c.index-values-place.is c.loop-place.invariant.fitting in
    let more = field_values_text_more c.loop-place.before.now fs vs i f v (omega arith) (omega arith) c.index-values-place.is in
    record {
      before_text = search rules;
      lengths = c.loop-place.invariant.lengths;
      fitting = parts.1;
      text = written_more _ _ _ _ _ _ _ _ c.in_ok-write_value.ensures c.in_ok-push_str-2.ensures.bytes more c.loop-place.invariant.text;
    }

pub write_items-write_value-requires : goal.write_items-write_value-requires
write_items-write_value-requires t c =
    let falls = value_falls c.as_slice-value-items.result.now c.loop-value.value-index c.value-item.result (omega arith) c.value-item.is in
    let count = ap list_count c.as_slice-value-items.ensures in
    (omega arith, (item_fits (type_of c.args.items.now) c.as_slice-value-items.result.now c.loop-value.value-index c.value-item.result (omega arith) c.value-item.is c.loop-value.invariant.fitting).0)

pub write_items-loop-value-preserved : goal.write_items-loop-value-preserved
write_items-loop-value-preserved t c =
    let s = type_of c.args.items.now in
    let vs = c.as_slice-value-items.result.now in
    let v = c.value-item.result in
    let i = c.loop-value.value-index in
    let parts = item_fits s vs i v (omega arith) c.value-item.is c.loop-value.invariant.fitting in
    let more = items_text_more c.loop-value.before.now s vs i v (omega arith) c.value-item.is in
    record {
      before_text = search rules;
      fitting = parts.1;
      text = written_more _ _ _ _ _ _ _ _ c.in_ok-write_value.ensures c.in_ok-push_str-2.ensures.bytes more c.loop-value.invariant.text;
    }
