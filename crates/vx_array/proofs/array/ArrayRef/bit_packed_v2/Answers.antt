use Rattle.std.proofs.Common.{◌≡◌, ◌∙◌, None, Some, refl, sym, subst}
use Rattle.std.specs.Prelude.{IsTrue, nat_lt}
use Rattle.std.specs.List.{list_all}
use Rattle.vx_base.specs.TypeOf.{type_of}
use Rattle.vx_model.specs.Refusals.{bit_packed_v2_refusal, kept_blocks}
use Rattle.vx_model.specs.Tree.{blocks_of, plain_blocks}
use Rattle.vx_array.specs.IsArray.{IsArray}
use Rattle.vx_array.proofs.BlockArrays.{blocks_array}
use Rattle.vx_array.proofs.array.ArrayRef.bit_packed_v2.Goals as goal

pub invariant_of-result : goal.invariant_of-result
invariant_of-result c =
    let k = plain_blocks c.args.ptype c.args.packed c.args.len c.args.valid c.args.nullability in
    let accepted : bit_packed_v2_refusal k c.args.block_offsets c.args.patches ≡ None = sym c.refusal.ensures ∙ c.in_default.is in
    let held : IsTrue (list_all (λ byte. nat_lt byte 256) c.args.packed) = subst (λ bytes. IsTrue (list_all (λ byte. nat_lt byte 256) bytes)) c.as_slice.ensures c.known_bytes.ensures in
    let own_type = type_of c.primitive.result in
    let plain = c.without_chunks.ensures in
    let own = c.in-Ok.ensures in
    let tree = plain.same_blocks (kept_blocks k) c.in-Ok.offsets.value ∙ (λ i. blocks_of (kept_blocks k) (own.0 i) (own.1 i)) in (
      rw c.keep.ensures
          (subst (λ t. IsArray t (Some own_type) c.args.len) (sym tree) (blocks_array k c.args.block_offsets c.args.patches own_type c.args.len accepted held c.known.ensures c.known_patches.ensures c.primitive.ensures refl)),
      plain.none,
    )
