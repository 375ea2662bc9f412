use Rattle.std.proofs.Common.{◌≡◌, ◌∙◌, ap, sym, subst, length, map, pos}
use Rattle.std.specs.Prelude.{IfSome}
use Rattle.vx_base.specs.declared.dtype.Nullability.TheVariants.{NonNullable}
use Rattle.vx_base.specs.Packed.{packed_row}
use Rattle.vx_base.specs.PlainValue.{int, whole_or_zero}
use Rattle.vx_model.specs.Decoded.{zeroed_by}
use Rattle.vx_model.specs.Refusals.{validity_length}
use Rattle.vx_model.specs.Rows.{below, packed_or_patch}
use Rattle.vx_model.specs.Tree.{plain_packed}
use Rattle.vx_values.specs.ValuesOf.{ints}
use Rattle.vx_array.specs.TreeOf.{unboxed}
use Rattle.vx_array.proofs.Unpacked.{below_length}
use Rattle.vx_array.proofs.node.bit_packed.decoded_packed.Goals as goal

pub written-values-requires-clause-rows : goal.written-values-requires-clause-rows
written-values-requires-clause-rows c =
    let len = ap length c.in_ok-values.ensures.1 ∙ below_length (λ i. pos (packed_row c.as_slice.result.now c.args.width i)) c.args.len in
    subst (λ n. IfSome (unboxed c.args.patches.now) (λ p. n ≡ p.array_len)) (sym len) c.requires.rows

pub behind-requires : goal.behind-requires
behind-requires c =
    let k = plain_packed c.args.ptype c.args.width c.args.packed.now c.args.len c.args.valid.now NonNullable in
    let bits = c.in_ok-values.ensures.1 ∙ ap (λ bytes. below (λ i. pos (packed_row bytes c.args.width i)) c.args.len) c.as_slice.ensures in
    let len = ap length bits ∙ below_length (λ i. pos (packed_row c.args.packed.now c.args.width i)) c.args.len in
    let wholes = c.written-values.ensures.wholes k len bits in
    let out = ap length wholes ∙ below_length (λ i. whole_or_zero (packed_or_patch k (unboxed c.args.patches.now) i)) c.args.len in
    (λ i. validity_length (c.in_ok-copy_validity.ensures i) (out i)) ∙ c.requires.bits

pub returns : goal.returns
returns c =
    let k = plain_packed c.args.ptype c.args.width c.args.packed.now c.args.len c.args.valid.now NonNullable in
    let bits = c.in_ok-values.ensures.1 ∙ ap (λ bytes. below (λ i. pos (packed_row bytes c.args.width i)) c.args.len) c.as_slice.ensures in
    let len = ap length bits ∙ below_length (λ i. pos (packed_row c.args.packed.now c.args.width i)) c.args.len in
    let wholes = c.written-values.ensures.wholes k len bits in
    let valid = c.in_ok-copy_validity.ensures in
    let h = c.behind.ensures in
    (h.0 ∙ ap ints (c.written-values.ensures.ptype ∙ c.in_ok-values.ensures.0), h.1 ∙ (λ i. map int (zeroed_by (pos 0) (valid i) (wholes i))), h.2 ∙ valid)
