use Rattle.std.proofs.Common.{◌++◌, ◌∙◌, [], rules, arith, ap, sym, map}
use Rattle.std.specs.Prelude.{codes}
use Rattle.std.proofs.Math.ListN.{drop_of_length-le}
use Rattle.std.proofs.lemmas.Result.{on_ok_weaker}
use Rattle.vx_base.specs.PlainType.{of_fields, list}
use Rattle.vx_base.specs.TypeOf.{type_of, field_of, fields_of}
use Rattle.vx_base.proofs.FallLemmas.{field_falls, field_list_count}
use Rattle.vx_base.proofs.FieldLemmas.{type_of-Struct, type_of-FixedSizeList}
use Rattle.vx_values.proofs.Types.{type_of-List, type_of-Timestamp}
use Rattle.vx_document.specs.CappedText.{put}
use Rattle.vx_document.specs.Writing.{fields_json, type_json, named_type, nullable_member}
use Rattle.vx_document.proofs.CappedTexts.{put_put, put_step, put_last, put_more, put_end}
use Rattle.vx_document.proofs.RowTexts.{fields_json_more}
use Rattle.vx_document.proofs.TypeTexts.{zoneless}
use Rattle.vx_document.proofs.writing.types.+types.Goals as goal

-- ---- structs

pub push_structs-push_field-requires : goal.push_structs-push_field-requires
push_structs-push_field-requires t c =
    let falls = field_falls c.as_slice-field-items.result.now c.loop-field.field-index c.field-item.result (omega arith) c.field-item.is in
    let count = ap field_list_count c.as_slice-field-items.ensures in
    omega arith

pub push_structs-loop-field-init : goal.push_structs-loop-field-init
push_structs-loop-field-init t c =
    let s = c.args.text.now in
    let all = fields_json [] (of_fields (map field_of c.as_slice-field-items.result.now)) in
    record {
      before_text = search rules;
      text = ap (λ t. put t all) c.in_ok-push.ensures ∙ put_put s (codes "{\"struct\":[") all ∙ ap (λ fs. put s (codes "{\"struct\":[" ++ fields_json [] (of_fields fs))) c.as_slice-field-items.ensures;
    }

pub push_structs-loop-field-preserved : goal.push_structs-loop-field-preserved
push_structs-loop-field-preserved t c =
    let more = fields_json_more c.loop-field.before.now c.as_slice-field-items.result.now c.loop-field.field-index c.field-item.result (omega arith) c.field-item.is in
    record {
      before_text = search rules;
      text = put_more _ _ _ _ _ _ _ _ c.in_ok-push_field.ensures c.in_ok-push-2.ensures more c.loop-field.invariant.text;
    }

pub push_structs-returns : goal.push_structs-returns
push_structs-returns t c =
    let s = c.args.text.now in
    let items = c.as_slice-field-items.result.now in
    let before = c.loop-field.before.now in
    let done = drop_of_length-le items {i = c.loop-field.field-index} (omega (arith, c.loop-field-test.false)) in
    let none = ap (λ fs. fields_json before (of_fields (map field_of fs))) done in
    let whole = codes "{\"struct\":[" ++ fields_json [] (of_fields (fields_of c.args.fields.now)) in
    let closed = put_end _ _ _ whole (codes "]") s none c.in_ok-push-3.ensures c.loop-field.invariant.text in
    on_ok_weaker c.push_end.result (put_last s _ _ (whole ++ codes "]") (nullable_member c.args.nullability) (codes "}") closed) c.push_end.ensures

-- ---- types

pub push_type-returns-in-Struct : goal.push_type-returns-in-Struct
push_type-returns-in-Struct t c =
    let at = c.in-Struct in
    let typed = ap type_of at.is ∙ type_of-Struct at.fields at.nullability in
    on_ok_weaker c.push_structs.result (λ e. e ∙ ap (λ t. put c.args.text.now (type_json t)) (sym typed)) c.push_structs.ensures

pub push_type-returns-in_ok-push_type-in-List : goal.push_type-returns-in_ok-push_type-in-List
push_type-returns-in_ok-push_type-in-List t c =
    let s = c.args.text.now in
    let at = c.in-List in
    let n = at.nullability in
    let typed = ap type_of at.is ∙ type_of-List at.items n in
    let inner = type_of c.deref.result.now in
    let begun = put_step s _ _ (codes "{\"list\":") (type_json inner) c.in_ok-push-in-List.ensures c.in_ok-push_type-in-List.ensures in
    let same = ap (λ d. put s (type_json (list (type_of d) n))) c.deref.ensures ∙ ap (λ t. put s (type_json t)) (sym typed) in
    on_ok_weaker c.push_end.result (λ e. put_last s _ _ (codes "{\"list\":" ++ type_json inner) (nullable_member n) (codes "}") begun e ∙ same) c.push_end.ensures

pub push_type-returns-in_ok-push-in-FixedSizeList-3 : goal.push_type-returns-in_ok-push-in-FixedSizeList-3
push_type-returns-in_ok-push-in-FixedSizeList-3 t c =
    let s = c.args.text.now in
    let at = c.in-FixedSizeList in
    let n = at.nullability in
    let typed = ap type_of at.is ∙ type_of-FixedSizeList at.items at.size n in
    let inner = type_of c.deref-in-FixedSizeList.result.now in
    let digits = c.format.result.now in
    let begun = put_step s _ _ (codes "{\"fixed\":") (type_json inner) c.in_ok-push-in-FixedSizeList.ensures c.in_ok-push_type-in-FixedSizeList.ensures in
    let key = put_step s _ _ (codes "{\"fixed\":" ++ type_json inner) (codes ",\"size\":") begun c.in_ok-push-in-FixedSizeList-2.ensures in
    let sized = put_step s _ _ (codes "{\"fixed\":" ++ type_json inner ++ codes ",\"size\":") digits key c.in_ok-push-in-FixedSizeList-3.ensures in
    let same =
    (λ i. put s (codes "{\"fixed\":" ++ type_json (type_of (c.deref-in-FixedSizeList.ensures i)) ++ codes ",\"size\":" ++ c.format.ensures.text i ++ nullable_member n ++ codes "}"))
    ∙ ap (λ t. put s (type_json t)) (sym typed) in
    on_ok_weaker c.push_end-in-FixedSizeList.result
    (λ e. put_last s _ _ (codes "{\"fixed\":" ++ type_json inner ++ codes ",\"size\":" ++ digits) (nullable_member n) (codes "}") sized e ∙ same) c.push_end-in-FixedSizeList.ensures

pub push_type-returns-in-None : goal.push_type-returns-in-None
push_type-returns-in-None t c =
    let s = c.args.text.now in
    let at = c.in-Timestamp in
    let typed = ap type_of at.is ∙ type_of-Timestamp at.kind at.nullability in
    let same = ap named_type typed ∙ zoneless at.kind at.nullability (sym c.in-None.ensures) ∙ ap type_json (sym typed) in
    on_ok_weaker c.push_named.result (λ e. e ∙ ap (put s) same) c.push_named.ensures
