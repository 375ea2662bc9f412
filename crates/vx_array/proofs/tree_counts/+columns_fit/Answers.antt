use Rattle.std.proofs.Common.{◌≡◌, ◌∙◌, ◌-◌, ◌^◌, ℕ, min, zero-add, ap, sym, refl, inl, inr, arith, true}
use Rattle.std.specs.List.{list_all}
use Rattle.vx_base.proofs.FallLemmas.{field_falls, field_list_count}
use Rattle.vx_base.proofs.FieldLemmas.{type_of-FixedSizeList}
use Rattle.vx_base.specs.TypeOf.{type_of}
use Rattle.vx_base.specs.PlainType.{list, fixed_size_list, of_fields}
use Rattle.vx_values.proofs.Types.{type_of-List}
use Rattle.vx_array.specs.TreeWays.{by_ways, by_fields, extent_at}
use Rattle.vx_flat.specs.Ways.{PlainWay, way_of, here, field, inside, turned}
use Rattle.vx_flat.proofs.FewWayLemmas.{left_false, left_true, way_of-Here, way_of-Field, way_of-Items}
use Rattle.vx_array.proofs.TreeWays.{few, few-least, fields-next, items-few}
use Rattle.vx_array.proofs.tree_counts.+columns_fit.Goals as goal

pub fields_fit-field_fits-requires : goal.fields_fit-field_fits-requires
fields_fit-field_fits-requires t c =
    let falls = field_falls c.as_slice-fields.result.now c.loop-place.place c.index-fields-place.result (omega arith) c.index-fields-place.is in
    let count = ap field_list_count c.as_slice-fields.ensures in
    omega arith

pub fields_fit-returns-then-not-field_fits : goal.fields_fit-returns-then-not-field_fits
fields_fit-returns-then-not-field_fits t c =
    let step = fields-next (λ i w. extent_at (turned (way_of c.args.way.now) (field i w)) c.args.tree.now) c.as_slice-fields.result.now c.loop-place.place c.index-fields-place.result (omega arith) c.index-fields-place.is in
    sym (sym c.loop-place.invariant ∙ left_false _ _ _ step (sym c.field_fits.ensures ∙ c.if-not-field_fits.true))

pub fields_fit-loop-place-preserved : goal.fields_fit-loop-place-preserved
fields_fit-loop-place-preserved t c =
    let step = fields-next (λ i w. extent_at (turned (way_of c.args.way.now) (field i w)) c.args.tree.now) c.as_slice-fields.result.now c.loop-place.place c.index-fields-place.result (omega arith) c.index-fields-place.is in
    sym (left_true _ _ _ step (sym c.field_fits.ensures ∙ c.if-not-field_fits.false)) ∙ c.loop-place.invariant

pub fields_fit-loop-place-init : goal.fields_fit-loop-place-init
fields_fit-loop-place-init t c =
    λ i. list_all few (by_fields (of_fields (c.as_slice-fields.ensures i)) (λ k w. extent_at (turned (way_of c.args.way.now) (field (zero-add k i) w)) c.args.tree.now))

pub field_fits-returns : goal.field_fits-returns
field_fits-returns t c =
    c.columns_fit.ensures ∙ ap (λ v. list_all few (by_ways (type_of c.args.inner.now.1) (λ w. extent_at (turned v w) c.args.tree.now))) (way_of-Field c.args.place _)

pub columns_fit-returns-in-List : goal.columns_fit-returns-in-List
columns_fit-returns-in-List t c =
    let w = way_of c.args.way.now in
    let tree = c.args.tree.now in
    let items = type_of c.in-List.items.value in
    let f : PlainWay → ℕ = λ v. extent_at (turned w v) tree in
    let least = c.turned_extent.ensures ∙ ap (λ v. min (extent_at (turned w v) tree) (2 ^ 64 - 1)) way_of-Here in
    let own : few (f here) ≡ true = sym (few-least (f here)) ∙ ap few (sym least) ∙ sym c.is_few.ensures ∙ c.if-not-is_few.false in
    let rest = c.columns_fit.ensures ∙ ap (λ u. list_all few (by_ways (type_of c.deref.result.now) (λ v. extent_at (turned u v) tree))) (way_of-Items _) ∙ ap (λ d. list_all few (by_ways (type_of d) (λ v. f (inside v)))) c.deref.ensures in
    rest
    ∙ sym
    (elim c.in-List.is as (λ is. list_all few (by_ways (type_of c.args.inner.now) f) ≡ list_all few (by_ways items (λ v. f (inside v)))) [
      | inl s ↦ items-few (type_of c.args.inner.now) (list items s.0) items f (ap type_of s.1 ∙ type_of-List c.in-List.items s.0) refl own
      | inr s ↦ items-few (type_of c.args.inner.now) (fixed_size_list items s.0 s.1) items f (ap type_of s.2 ∙ type_of-FixedSizeList c.in-List.items s.0 s.1) refl own
    ])
