use Rattle.std.proofs.Common.{ℕ, List, ◌∷◌, [], map, Some, option_map, codes, sym, ap, ◌∙◌, arith}
use Rattle.std.proofs.lemmas.List.{map-append}
use Rattle.std.proofs.lemmas.Result.{err_from_is_err_and}
use Rattle.serde_json.specs.View.{items_view}
use Rattle.vx_base.specs.PlainType.{PlainType}
use Rattle.vx_base.specs.TypeOf.{type_of, field_of}
use Rattle.vx_document.specs.Types.{field_read}
use Rattle.vx_document.proofs.Documents.{Gives-err, with_left_more}
use Rattle.vx_document.proofs.DocumentTypes.{field_read-of, fields_in-list, items_count, member_count, option_count}
use Rattle.vx_document.proofs.document.types.+types.Goals as goal

pub read_structs-read_fields-requires : goal.read_structs-read_fields-requires
read_structs-read_fields-requires t c = omega (arith, ap option_count c.take_member.ensures.taken, member_count (codes "struct"))

pub read_lists-read_items-requires : goal.read_lists-read_items-requires
read_lists-read_items-requires t c = omega (arith, ap option_count c.take_member.ensures.taken, member_count (codes "list"))

pub read_fixed_lists-read_items-requires : goal.read_fixed_lists-read_items-requires
read_fixed_lists-read_items-requires t c = omega (arith, ap option_count c.take_member.ensures.taken, member_count (codes "fixed"))

pub read_fields-returns-in-Array : goal.read_fields-returns-in-Array
read_fields-returns-in-Array t c =
    let list = fields_in-list c.args.value c.in-Array.list (c.in-Some.is ∙ ap Some c.in-Array.is) in
    rw list c.read_field_list.ensures

pub read_field_list-loop-value-preserved : goal.read_field_list-loop-value-preserved
read_field_list-loop-value-preserved t c =
    let l = c.loop-value in
    let next = c.in-Some.ensures.steps.0 in
    let more = with_left_more field_read (map field_of l.fields.items) _ _ c.in-Some.value _ next c.in_ok-read_field.ensures in
    record {
      reading = rw (c.in_ok-push.ensures.items, map-append field_of l.fields.items (c.in_ok-read_field.field-0 ∷ [])) (sym more ∙ l.invariant.reading);
      fewer = let count = ap (λ vs. items_count (items_view vs)) next in omega (arith, count, l.invariant.fewer);
    }

pub read_field-returns-in_err-dtype : goal.read_field-returns-in_err-dtype
read_field-returns-in_err-dtype t c =
    let p = err_from_is_err_and c.from_residual.result c.from_residual.ensures.1 in
    let whole = field_read-of c.args.value c.in-Array.list c.in-Some.name c.in-Some.dtype c.in-String.name c.in-Array.is (sym c.pair_of.ensures ∙ c.in-Some.is) c.in-String.is in
    rw (p.1, p.2) (Gives-err type_of field_of c.in_err-dtype.field-0.0 _ _ (λ none. whole ∙ ap (option_map (λ (t : PlainType). (c.in-String.name.bytes.items, t))) none) c.in_err-dtype.ensures)

pub read_field-returns : goal.read_field-returns
read_field-returns t c =
    let whole = field_read-of c.args.value c.in-Array.list c.in-Some.name c.in-Some.dtype c.in-String.name c.in-Array.is (sym c.pair_of.ensures ∙ c.in-Some.is) c.in-String.is in
    whole ∙ ap (option_map (λ (t : PlainType). (c.in-String.name.bytes.items, t))) c.in_ok-dtype.ensures ∙ ap (λ (name : List ℕ). Some (name, type_of c.in_ok-dtype.dtype)) (sym c.from_string.ensures)
