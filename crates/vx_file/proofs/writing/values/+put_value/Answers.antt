use Rattle.std.proofs.Common.{◌∙◌, ◌++◌, rules, sym, ap, length, arith}
use Rattle.std.proofs.lemmas.List.{length-map}
use Rattle.std.proofs.lemmas.Result.{on_ok_weaker}
use Rattle.vx_base.specs.PlainScalar.{field_list_fits}
use Rattle.vx_base.specs.PlainType.{of_fields}
use Rattle.vx_base.specs.PlainValue.{of_list}
use Rattle.vx_base.specs.TypeOf.{type_of, value_of, field_of, fields_of}
use Rattle.vx_base.proofs.StepLemmas.{item_fits, field_fits}
use Rattle.vx_base.proofs.WithinLemmas.{fields_fit-length}
use Rattle.vx_spelling.specs.TypeSpelling.{field_types_depth}
use Rattle.vx_spelling.specs.ValueSpelling.{each_field_text}
use Rattle.vx_values.proofs.Types.{type_of-List}
use Rattle.vx_file.proofs.Steps.{two_parts, part_more}
use Rattle.vx_file.proofs.TypeSteps.{field_depth_at}
use Rattle.vx_file.proofs.ValueSteps.{each_text_more, each_field_more, content-list}
use Rattle.vx_file.proofs.writing.values.+put_value.Goals as goal

pub put_content-returns-in_ok-put_varint-in-List-List : goal.put_content-returns-in_ok-put_varint-in-List-List
put_content-returns-in_ok-put_varint-in-List-List t c =
    let at = c.in-List-List in
    let text = content-list (value_of c.args.value.now) (type_of c.args.dtype.now) at.values (type_of at.items.value) (type_of c.deref.result.now) at.field-1-1 c.len.result (ap value_of at.is-0) (ap type_of at.is-1 ∙ type_of-List at.items at.field-1-1)
    (ap type_of c.deref.ensures) c.len.ensures in
    on_ok_weaker c.put_each.result (λ e. two_parts _ _ _ _ _ _ c.in_ok-put_varint-in-List-List.ensures e text) c.put_each.ensures

pub put_each-loop-value-preserved : goal.put_each-loop-value-preserved
put_each-loop-value-preserved t c =
    let s = type_of c.args.dtype.now in
    let vs = c.as_slice-value-items.result.now in
    let v = c.value-item.result in
    let i = c.loop-value.value-index in
    record {
      fitting = (item_fits s vs i v (omega arith) c.value-item.is c.loop-value.invariant.fitting).1;
      text = part_more _ _ _ _ _ _ c.in_ok-put_value.ensures (each_text_more s vs i v (omega arith) c.value-item.is) c.loop-value.invariant.text;
    }

pub put_each_field-loop-place-init : goal.put_each_field-loop-place-init
put_each_field-loop-place-init t c =
    let all = fields_fit-length (fields_of c.args.fields.now) c.args.values.now c.requires.fits in
    record {
      lengths = sym (length-map c.as_slice-fields.result.now field_of) ∙ ap length c.as_slice-fields.ensures ∙ all ∙ sym (ap length c.as_slice-values.ensures) ∙ length-map c.as_slice-values.result.now value_of;
      fitting = (λ i. field_list_fits (c.as_slice-fields.ensures i) (c.as_slice-values.ensures i)) ∙ c.requires.fits;
      text = λ i. c.args.out.now.items ++ each_field_text (of_list (c.as_slice-values.ensures i)) (of_fields (c.as_slice-fields.ensures i));
    }

pub put_each_field-put_value-requires : goal.put_each_field-put_value-requires
put_each_field-put_value-requires t c =
    let fs = c.as_slice-fields.result.now in
    let vs = c.as_slice-values.result.now in
    let f = c.index-fields-place.result in
    let v = c.index-values-place.result in
    let i = c.loop-place.place in
    let d = field_depth_at fs i f (omega arith) in
    let all = ap (λ gs. field_types_depth (of_fields gs)) c.as_slice-fields.ensures in (
      search rules,
      (omega (arith, d, all, c.requires.nests), (field_fits fs vs i f v (omega arith) (omega arith) c.index-values-place.is c.loop-place.invariant.fitting).0),
    )

pub put_each_field-loop-place-preserved : goal.put_each_field-loop-place-preserved
put_each_field-loop-place-preserved t c =
    let fs = c.as_slice-fields.result.now in
    let vs = c.as_slice-values.result.now in
    let f = c.index-fields-place.result in
    let v = c.index-values-place.result in
    let i = c.loop-place.place in
    record {
      lengths = c.loop-place.invariant.lengths;
      fitting = (field_fits fs vs i f v (omega arith) (omega arith) c.index-values-place.is c.loop-place.invariant.fitting).1;
      text = part_more _ _ _ _ _ _ c.in_ok-put_value.ensures (each_field_more fs vs i f v (omega arith) (omega arith) c.index-values-place.is) c.loop-place.invariant.text;
    }
