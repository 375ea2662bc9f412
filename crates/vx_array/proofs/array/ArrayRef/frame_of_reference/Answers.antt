use Rattle.std.proofs.Common.{◌≡◌, ◌∙◌, None, sym, ap}
use Rattle.vx_base.specs.PlainType.{integer_of, nullability_of}
use Rattle.vx_base.specs.PlainType as types
use Rattle.vx_base.specs.TypeOf.{type_of}
use Rattle.vx_model.specs.Refusals.{for_refusal}
use Rattle.vx_model.specs.TreeType.{tree_type}
use Rattle.vx_array.proofs.Making.{frame_array}
use Rattle.vx_array.proofs.array.ArrayRef.frame_of_reference.Goals as goal

pub invariant_of-result : goal.invariant_of-result
invariant_of-result c =
    let accepted : for_refusal c.args.encoded c.args.reference ≡ None = sym c.refusal.ensures ∙ c.in_default.is in
    let ptype = c.ptype.ensures ∙ ap integer_of c.dtype.ensures in
    let nullability = c.nullability.ensures ∙ ap nullability_of c.dtype-2.ensures in
    let own : type_of c.primitive-own_type.result ≡ types.primitive (integer_of c.args.reference.dtype) (nullability_of (tree_type c.args.encoded)) = c.primitive-own_type.ensures ∙ (λ i. types.primitive (ptype i) (nullability i)) in
    (rw c.in-Ok.ensures.ok (frame_array c.args.encoded c.args.reference _ _ accepted c.known-2.ensures c.known.ensures own c.len-len.ensures), tt)
