use Rattle.std.proofs.Common.{arith, ap, sym, ◌∙◌, ◌≡◌, ◌^◌, ◌-◌, min, ◌∷◌, [], true, false, ◌*◌}
use Rattle.vx_base.specs.PlainValue.{is_null}
use Rattle.vx_base.specs.TypeOf.{type_of}
use Rattle.vx_flat.specs.Ways.{way_of, count_at, value_in}
use Rattle.vx_flat.proofs.ValueWayLemmas.{count_at-next, count_at-first, count_at-field, count_at-no_field, count_at-no_items, count_at-items_of_null, count_at-items}
use Rattle.vx_flat.proofs.counting.within.+rows_within.Goals as goal

pub rows_within-loop-value-init : goal.rows_within-loop-value-init
rows_within-loop-value-init t c = count_at-first (way_of c.args.way.now) (type_of c.args.dtype.now) (2 ^ 64 - 1)

pub rows_within-loop-value-preserved : goal.rows_within-loop-value-preserved
rows_within-loop-value-preserved t c =
    let step = count_at-next (way_of c.args.way.now) (type_of c.args.dtype.now) c.args.values.now c.loop-value.value-index c.value-item.result (omega arith) c.value-item.is in
    omega (arith, c.loop-value.invariant, c.rows_of.ensures, step)

pub rows_of_field-returns-in-Some : goal.rows_of_field-returns-in-Some
rows_of_field-returns-in-Some t c =
    let w = way_of c.args.rest.now in
    let s = type_of c.in-Some.field.now in
    let own = count_at-field w c.args.place (type_of c.args.dtype.now) s (sym c.in-Some.ensures) (value_in c.args.value) in
    c.rows_of.ensures ∙ ap (λ v. min (count_at w s (v ∷ [])) (2 ^ 64 - 1)) c.value_within.ensures ∙ ap (λ k. min k (2 ^ 64 - 1)) (sym own)

pub rows_of_field-returns-in-None : goal.rows_of_field-returns-in-None
rows_of_field-returns-in-None t c =
    let w = way_of c.args.rest.now in
    let none = count_at-no_field w c.args.place (type_of c.args.dtype.now) (sym c.in-None.ensures) (value_in c.args.value) in
    ap (λ k. min k (2 ^ 64 - 1)) (sym none)

pub rows_of_items-returns-in-Some : goal.rows_of_items-returns-in-Some
rows_of_items-returns-in-Some t c =
    let w = way_of c.args.rest.now in
    let s = type_of c.args.dtype.now in
    let missing : is_null (value_in c.args.value) ≡ true = sym c.is_null.ensures ∙ c.if-is_null.true in
    c.saturating_mul.ensures ∙ (λ i. min (c.rows_of.ensures i * c.items_of_null.ensures i) (2 ^ 64 - 1))
    ∙ count_at-items_of_null w s (type_of c.in-Some.items.now) (value_in c.args.value) (2 ^ 64 - 1) (sym c.in-Some.ensures) missing

pub rows_of_items-returns-in-Some-2 : goal.rows_of_items-returns-in-Some-2
rows_of_items-returns-in-Some-2 t c =
    let w = way_of c.args.rest.now in
    let s = type_of c.args.dtype.now in
    let some : is_null (value_in c.args.value) ≡ false = sym c.is_null.ensures ∙ c.if-is_null.false in
    let own = count_at-items w s (type_of c.in-Some.items.now) (value_in c.args.value) (sym c.in-Some.ensures) some in
    c.rows_within.ensures ∙ ap (λ vs. min (count_at w (type_of c.in-Some.items.now) vs) (2 ^ 64 - 1)) c.values_in.ensures ∙ ap (λ k. min k (2 ^ 64 - 1)) (sym own)

pub rows_of_items-returns-in-None : goal.rows_of_items-returns-in-None
rows_of_items-returns-in-None t c =
    ap (λ k. min k (2 ^ 64 - 1)) (sym (count_at-no_items (way_of c.args.rest.now) (type_of c.args.dtype.now) (sym c.in-None.ensures) (value_in c.args.value)))
