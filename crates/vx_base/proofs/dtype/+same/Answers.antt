use Rattle.std.proofs.Common.{arith, refl, ap, sym, ◌∙◌, ◌≡◌}
use Rattle.std.proofs.lemmas.Grind.{common_steps}
use Rattle.vx_base.proofs.FieldLemmas.{of_fields_inj, fields_of-out, type_of-Struct, mapped_same}
use Rattle.vx_base.specs.declared.dtype.Nullability.TheVariants.{NonNullable}
use Rattle.vx_base.specs.PlainType.{PlainType, structure, of_fields, with_nullability}
use Rattle.vx_base.specs.TypeOf.{type_of, field_of, fields_of}
use Rattle.vx_base.proofs.dtype.+same.Goals as goal

pub DType::same_base-returns-in-Struct-Struct : goal.DType::same_base-returns-in-Struct-Struct
DType::same_base-returns-in-Struct-Struct t c =
    let a : type_of c.args.self.now ≡ structure (of_fields (fields_of c.in-Struct-Struct.fields)) c.in-Struct-Struct.field-1-0 = ap type_of c.in-Struct-Struct.is-0 ∙ type_of-Struct _ _ in
    let b : type_of c.args.other.now ≡ structure (of_fields (fields_of c.in-Struct-Struct.others)) c.in-Struct-Struct.field-1-1 = ap type_of c.in-Struct-Struct.is-1 ∙ type_of-Struct _ _ in
    let base = λ (s : PlainType). with_nullability s NonNullable in
    let s = c.same-in-Struct-Struct.ensures in (
      λ h. ap base a ∙ ap (λ fs. structure (of_fields fs) NonNullable) (s.0 h) ∙ sym (ap base b),
      λ e. let k : structure (of_fields (fields_of c.in-Struct-Struct.fields)) NonNullable ≡ structure (of_fields (fields_of c.in-Struct-Struct.others)) NonNullable = sym (ap base a) ∙ e ∙ ap base b in s.1 (of_fields_inj _ _ cc),
    )

pub Fields::same-returns : goal.Fields::same-returns
Fields::same-returns t c = (λ _. fields_of-out c.args.self.now ∙ grind (arith, common_steps, c.loop-place.invariant.same_below) ∙ sym (fields_of-out c.args.other.now), λ _. refl)

pub Fields::same-returns-then-not-same_field : goal.Fields::same-returns-then-not-same_field
Fields::same-returns-then-not-same_field t c = (
  λ h. cc,
  λ e. let k = c.same_field.ensures.1 (mapped_same field_of _ _ c.loop-place.place _ _ (omega arith) c.loop-place.invariant.lengths c.index.ensures c.index-in-loop-place.ensures
      (sym (fields_of-out c.args.self.now) ∙ e ∙ fields_of-out c.args.other.now)) in cc,
)
