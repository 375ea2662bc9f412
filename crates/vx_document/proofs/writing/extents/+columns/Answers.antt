use Rattle.std.proofs.Common.{◌≡◌, ◌∙◌, ◌-◌, ◌^◌, ℕ, min, zero-add, ap, sym, refl, inl, inr, arith, true}
use Rattle.std.specs.List.{list_all}
use Rattle.vx_base.proofs.FallLemmas.{field_falls, field_list_count}
use Rattle.vx_base.proofs.FieldLemmas.{type_of-FixedSizeList}
use Rattle.vx_base.specs.TypeOf.{type_of}
use Rattle.vx_base.specs.PlainType.{list, fixed_size_list, of_fields}
use Rattle.vx_values.proofs.Types.{type_of-List}
use Rattle.vx_array.specs.TreeWays.{by_ways, by_fields, extent_at}
use Rattle.vx_flat.specs.Ways.{PlainWay, way_of, here, field, inside, turned}
use Rattle.vx_flat.proofs.FewWayLemmas.{left_false, left_true, way_of-Here, way_of-Field, way_of-Items}
use Rattle.vx_document.specs.Writing.{is_few}
use Rattle.vx_document.proofs.Extents.{few-least, fields-next, items-few}
use Rattle.vx_document.proofs.writing.extents.+columns.Goals as goal

pub fields_are_few-field_is_few-requires : goal.fields_are_few-field_is_few-requires
fields_are_few-field_is_few-requires t c =
    let falls = field_falls c.as_slice-fields.result.now c.loop-place.place c.index-fields-place.result (omega arith) c.index-fields-place.is in
    let count = ap field_list_count c.as_slice-fields.ensures in
    omega arith

pub fields_are_few-returns-then-not-field_is_few : goal.fields_are_few-returns-then-not-field_is_few
fields_are_few-returns-then-not-field_is_few t c =
    let step = fields-next (λ i w. extent_at (turned (way_of c.args.way.now) (field i w)) c.args.tree.now) c.as_slice-fields.result.now c.loop-place.place c.index-fields-place.result (omega arith) c.index-fields-place.is in
    sym (sym c.loop-place.invariant ∙ left_false _ _ _ step (sym c.field_is_few.ensures ∙ c.if-not-field_is_few.true))

pub fields_are_few-loop-place-preserved : goal.fields_are_few-loop-place-preserved
fields_are_few-loop-place-preserved t c =
    let step = fields-next (λ i w. extent_at (turned (way_of c.args.way.now) (field i w)) c.args.tree.now) c.as_slice-fields.result.now c.loop-place.place c.index-fields-place.result (omega arith) c.index-fields-place.is in
    sym (left_true _ _ _ step (sym c.field_is_few.ensures ∙ c.if-not-field_is_few.false)) ∙ c.loop-place.invariant

pub fields_are_few-loop-place-init : goal.fields_are_few-loop-place-init
fields_are_few-loop-place-init t c =
    λ i. list_all is_few (by_fields (of_fields (c.as_slice-fields.ensures i)) (λ k w. extent_at (turned (way_of c.args.way.now) (field (zero-add k i) w)) c.args.tree.now))

pub field_is_few-returns : goal.field_is_few-returns
field_is_few-returns t c =
    c.columns_are_few.ensures ∙ ap (λ v. list_all is_few (by_ways (type_of c.args.inner.now.1) (λ w. extent_at (turned v w) c.args.tree.now))) (way_of-Field c.args.place _)

pub columns_are_few-returns-in-List : goal.columns_are_few-returns-in-List
columns_are_few-returns-in-List t c =
    let w = way_of c.args.way.now in
    let tree = c.args.tree.now in
    let items = type_of c.in-List.items.value in
    let f : PlainWay → ℕ = λ v. extent_at (turned w v) tree in
    let least = c.turned_extent.ensures ∙ ap (λ v. min (extent_at (turned w v) tree) (2 ^ 64 - 1)) way_of-Here in
    let own : is_few (f here) ≡ true = sym (few-least (f here)) ∙ ap is_few (sym least) ∙ sym c.is_few.ensures ∙ c.if-not-is_few.false in
    let rest = c.columns_are_few.ensures ∙ ap (λ u. list_all is_few (by_ways (type_of c.deref.result.now) (λ v. extent_at (turned u v) tree))) (way_of-Items _) ∙ ap (λ d. list_all is_few (by_ways (type_of d) (λ v. f (inside v)))) c.deref.ensures in
    rest
    ∙ sym
    (elim c.in-List.is as (λ is. list_all is_few (by_ways (type_of c.args.inner.now) f) ≡ list_all is_few (by_ways items (λ v. f (inside v)))) [
      | inl s ↦ items-few (type_of c.args.inner.now) (list items s.0) items f (ap type_of s.1 ∙ type_of-List c.in-List.items s.0) refl own
      | inr s ↦ items-few (type_of c.args.inner.now) (fixed_size_list items s.0 s.1) items f (ap type_of s.2 ∙ type_of-FixedSizeList c.in-List.items s.0 s.1) refl own
    ])
