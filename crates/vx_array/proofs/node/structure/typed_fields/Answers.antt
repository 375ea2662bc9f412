use Rattle.std.proofs.Common.{◌≡◌, ◌∙◌, ◌++◌, ◌∷◌, [], ap, sym, length, map, arith}
use Rattle.std.specs.List.{zip}
use Rattle.std.proofs.lemmas.List.{map-append, take_all}
use Rattle.vx_base.specs.PlainType.{of_fields}
use Rattle.vx_base.specs.TypeOf.{field_of}
use Rattle.vx_model.specs.Tree.{of_list}
use Rattle.vx_model.specs.TreeType.{tree_type, field_types}
use Rattle.vx_array.proofs.Typing.{field_types-zip, zip_more}
use Rattle.vx_array.proofs.node.structure.typed_fields.Goals as goal

pub loop-place-preserved : goal.loop-place-preserved
loop-place-preserved c =
    let names = c.as_slice-names.result.now in
    let fields = c.as_slice-fields.result.now in
    let lengths : length names ≡ length fields = ap length c.as_slice-names.ensures ∙ c.requires ∙ sym (ap length c.as_slice-fields.ensures) in
    let next = zip_more names fields c.loop-place.place c.index-names-place.result c.index-fields-place.result lengths (omega (arith, lengths)) c.index-names-place.is c.index-fields-place.is in
    let one = map-append field_of c.loop-place.typed.items (c.in_ok-typed_field.field-0 ∷ []) in
    ap (map field_of) c.in_ok-push.ensures.items ∙ one ∙ (λ k. c.loop-place.invariant k ++ c.in_ok-typed_field.ensures k ∷ []) ∙ sym next

pub returns : goal.returns
returns c =
    let names = c.as_slice-names.result.now in
    let fields = c.as_slice-fields.result.now in
    let lengths : length names ≡ length fields = ap length c.as_slice-names.ensures ∙ c.requires ∙ sym (ap length c.as_slice-fields.ensures) in
    let all_names = take_all c.loop-place.place names (omega (arith, lengths)) in
    let all_fields = take_all c.loop-place.place fields (omega arith) in
    ap of_fields (c.from_vec.ensures ∙ c.loop-place.invariant ∙ (λ k. zip (all_names k) (map tree_type (all_fields k)))) ∙ sym (field_types-zip names fields)
    ∙ (λ k. field_types (c.as_slice-names.ensures k) (of_list (c.as_slice-fields.ensures k)))
