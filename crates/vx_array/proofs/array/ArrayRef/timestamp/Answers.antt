use Rattle.std.proofs.Common.{◌≡◌, ◌∙◌, ap, sym, refl, true}
use Rattle.vx_base.specs.declared.ptype.PType.TheVariants.{I64}
use Rattle.vx_base.specs.PlainType.{nullability_of, same_type}
use Rattle.vx_base.specs.PlainType as types
use Rattle.vx_model.specs.TreeType.{tree_type}
use Rattle.vx_array.proofs.Making.{timestamp_array}
use Rattle.vx_array.proofs.array.ArrayRef.timestamp.Goals as goal

pub invariant_of-result : goal.invariant_of-result
invariant_of-result c =
    let t = tree_type c.args.storage in
    let stored : same_type t (types.primitive I64 (nullability_of t)) ≡ true =
    ap (λ s. same_type s (types.primitive I64 (nullability_of s))) (sym c.dtype.ensures) ∙ sym c.is_storage.ensures ∙ c.if-not-is_storage.false in
    let own = c.timestamp-own_type.ensures ∙ (λ i. types.timestamp (c.in-Ok.ensures i) ((c.nullability.ensures ∙ ap nullability_of c.dtype-2.ensures) i)) in
    (rw c.in-Ok-new.ensures.ok (timestamp_array c.args.storage c.args.kind _ _ (rw stored refl) c.known.ensures own c.len-len.ensures), tt)
