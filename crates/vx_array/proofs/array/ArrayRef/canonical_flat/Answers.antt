use Rattle.std.proofs.Common.{◌∙◌, ap, sym, refl, subst}
use Rattle.vx_base.specs.Answers.{Answers}
use Rattle.vx_base.specs.PlainType.{nullability_of}
use Rattle.vx_array.specs.AsType.{as_type}
use Rattle.vx_array.proofs.Canonicals.{bool_of, var_bin_view_of, ints_of}
use Rattle.vx_array.proofs.array.ArrayRef.canonical_flat.Goals as goal

pub bool_of-requires : goal.bool_of-requires
bool_of-requires c =
    let d = c.in_ok-values.field-0 in
    let nullability = c.nullability.ensures ∙ ap nullability_of c.dtype-dtype.ensures in
    let flat = c.requires in
    (bool_of c.args.self.now d c.in-Bits.bits d.valid c.nullability.result c.known.ensures flat (sym c.in-Bits.is) refl nullability c.in_ok-values.ensures).admitted

pub returns-in-Bits : goal.returns-in-Bits
returns-in-Bits c =
    let d = c.in_ok-values.field-0 in
    let nullability = c.nullability.ensures ∙ ap nullability_of c.dtype-dtype.ensures in
    let flat = c.requires in
    c.bool_of.ensures ∙ (bool_of c.args.self.now d c.in-Bits.bits d.valid c.nullability.result c.known.ensures flat (sym c.in-Bits.is) refl nullability c.in_ok-values.ensures).made

pub primitive_of-integers-requires : goal.primitive_of-integers-requires
primitive_of-integers-requires c =
    let d = c.in_ok-values.field-0 in
    let nullability = c.nullability-in-Ints.ensures ∙ ap nullability_of c.dtype-dtype.ensures in
    (ints_of c.args.self.now d c.in-Ints.ints d.valid c.nullability-in-Ints.result c.known.ensures (sym c.in-Ints.is) refl nullability c.in_ok-values.ensures).admitted

pub returns-in-Ints : goal.returns-in-Ints
returns-in-Ints c =
    let d = c.in_ok-values.field-0 in
    let nullability = c.nullability-in-Ints.ensures ∙ ap nullability_of c.dtype-dtype.ensures in
    let own = ints_of c.args.self.now d c.in-Ints.ints d.valid c.nullability-in-Ints.result c.known.ensures (sym c.in-Ints.is) refl nullability c.in_ok-values.ensures in
    subst (λ tree. Answers c.as_type.result tree) ((λ i. as_type (c.dtype-dtype.ensures i) (c.primitive_of-integers.ensures i)) ∙ own.made) c.as_type.ensures

pub var_bin_view_of-requires : goal.var_bin_view_of-requires
var_bin_view_of-requires c =
    let d = c.in_ok-values.field-0 in
    let typed = c.in_ok-copy-in-Bytes.ensures ∙ c.dtype-dtype.ensures in
    (var_bin_view_of c.args.self.now d c.in-Bytes.rows d.valid _ c.known.ensures (sym c.in-Bytes.is) refl typed c.in_ok-values.ensures).admitted

pub returns-in_ok-copy-in-Bytes : goal.returns-in_ok-copy-in-Bytes
returns-in_ok-copy-in-Bytes c =
    let d = c.in_ok-values.field-0 in
    let typed = c.in_ok-copy-in-Bytes.ensures ∙ c.dtype-dtype.ensures in
    c.var_bin_view_of.ensures ∙ (var_bin_view_of c.args.self.now d c.in-Bytes.rows d.valid _ c.known.ensures (sym c.in-Bytes.is) refl typed c.in_ok-values.ensures).made
