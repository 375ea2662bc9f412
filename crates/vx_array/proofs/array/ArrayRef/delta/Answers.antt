use Rattle.std.proofs.Common.{◌≡◌, ◌∙◌, ap, sym, None}
use Rattle.vx_base.specs.PlainType.{integer_of}
use Rattle.vx_base.specs.PlainType as types
use Rattle.vx_model.specs.Refusals.{delta_refusal}
use Rattle.vx_array.proofs.Blocks.{delta_array}
use Rattle.vx_array.proofs.array.ArrayRef.delta.Goals as goal

pub invariant_of-result : goal.invariant_of-result
invariant_of-result c =
    let a = c.args in
    let accepted : delta_refusal a.bases a.deltas a.len a.valid a.nullability ≡ None = sym c.refusal.ensures ∙ c.in_default.is in
    let ptype = c.ptype.ensures ∙ ap integer_of c.dtype.ensures in
    let own = c.in-Ok.ensures in
    (rw (own.0, own.1, c.keep.ensures) (delta_array a.bases a.deltas a.len a.valid a.nullability _ accepted c.known.ensures c.known-2.ensures (c.primitive-own_type.ensures ∙ ap (λ p. types.primitive p a.nullability) ptype)), tt)
