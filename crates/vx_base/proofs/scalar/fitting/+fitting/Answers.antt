use Rattle.std.proofs.Common.{arith, ap, sym, ◌∙◌, ◌≡◌, length}
use Rattle.std.proofs.lemmas.List.{length-map}
use Rattle.vx_base.proofs.FieldLemmas.{type_of-FixedSizeList}
use Rattle.vx_base.proofs.WithinLemmas.{eqb_none, fits-of_length, fits-other_length, fields_fit-other_length}
use Rattle.vx_base.specs.PlainScalar.{fits, list_fits}
use Rattle.vx_base.specs.TypeOf.{type_of, value_of, field_of, fields_of}
use Rattle.vx_base.proofs.scalar.fitting.+fitting.Goals as goal

pub fields_fit-returns-then-fields-values : goal.fields_fit-returns-then-fields-values
fields_fit-returns-then-fields-values t c =
    let fs : length c.as_slice-fields.result.now ≡ length (fields_of c.args.fields.now) = sym (length-map c.as_slice-fields.result.now field_of) ∙ ap length c.as_slice-fields.ensures in
    let vs : length c.as_slice-values.result.now ≡ length c.args.values.now = sym (length-map c.as_slice-values.result.now value_of) ∙ ap length c.as_slice-values.ensures in
    sym (fields_fit-other_length (fields_of c.args.fields.now) c.args.values.now (λ e. absurd (omega arith)))

pub fits-returns-then-len-size : goal.fits-returns-then-len-size
fits-returns-then-len-size t c =
    let at = c.in-FixedSizeList-List in
    let a = ap type_of at.is-0 ∙ type_of-FixedSizeList at.items at.size at.field-2-0 in
    let b = ap value_of at.is-1 in
    let f = fits-of_length (type_of at.items.value) at.size at.field-2-0 at.values (sym c.len.ensures ∙ c.if-len-size.true) in
    sym ((λ i. fits (a i) (b i)) ∙ f ∙ sym (c.items_fit-then-len-size.ensures ∙ ap (λ d. list_fits (type_of d) at.values) c.deref-then-len-size.ensures))

pub fits-returns-else-len-size : goal.fits-returns-else-len-size
fits-returns-else-len-size t c =
    let at = c.in-FixedSizeList-List in
    let a = ap type_of at.is-0 ∙ type_of-FixedSizeList at.items at.size at.field-2-0 in
    let b = ap value_of at.is-1 in
    let f = fits-other_length (type_of at.items.value) at.size at.field-2-0 at.values (λ e. c.if-len-size.false (c.len.ensures ∙ e)) in
    eqb_none _ _ c.if-len-size.false ∙ sym ((λ i. fits (a i) (b i)) ∙ f)
