use Rattle.std.proofs.Common.{◌≡◌, ◌∙◌, None, Some, refl, ap, sym, subst}
use Rattle.std.specs.Prelude.{IsTrue, nat_lt}
use Rattle.std.specs.List.{list_all}
use Rattle.vx_base.specs.TypeOf.{type_of}
use Rattle.vx_model.specs.Refusals.{bit_packed_refusal, kept_packed}
use Rattle.vx_model.specs.Tree.{packed_of, plain_packed}
use Rattle.vx_array.specs.IsArray.{IsArray}
use Rattle.vx_array.proofs.Making.{packed_array}
use Rattle.vx_array.proofs.array.ArrayRef.bit_packed.Goals as goal

pub invariant_of-result : goal.invariant_of-result
invariant_of-result c =
    let k = plain_packed c.args.ptype c.args.width c.args.packed c.args.len c.args.valid c.args.nullability in
    let accepted : bit_packed_refusal k c.args.patches ≡ None = sym c.refusal.ensures ∙ c.in_default.is in
    let held : IsTrue (list_all (λ byte. nat_lt byte 256) c.args.packed) = subst (λ bytes. IsTrue (list_all (λ byte. nat_lt byte 256) bytes)) c.as_slice.ensures c.known_bytes.ensures in
    let plain = c.without_chunks.ensures in
    let tree = plain.same (kept_packed k) ∙ ap (packed_of (kept_packed k)) c.in-Ok.ensures in
    (rw c.keep.ensures (subst (λ t. IsArray t (Some (type_of c.primitive.result)) c.args.len) (sym tree) (packed_array k c.args.patches _ c.args.len accepted held c.known_patches.ensures c.primitive.ensures refl)), plain.none)
