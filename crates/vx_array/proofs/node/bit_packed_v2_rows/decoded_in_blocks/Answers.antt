use Rattle.std.proofs.Common.{◌≡◌, ◌∙◌, ℕ, ap, sym, subst, length, map, pos}
use Rattle.std.specs.Prelude.{IfSome}
use Rattle.vx_base.specs.PlainValue.{int, whole_or_zero}
use Rattle.vx_model.specs.Decoded.{zeroed_by}
use Rattle.vx_model.specs.Refusals.{validity_length}
use Rattle.vx_model.specs.Rows.{below, block_or_patch, packed_in_block}
use Rattle.vx_values.specs.IntsOf.{wholes_of}
use Rattle.vx_values.specs.ValuesOf.{ints}
use Rattle.vx_array.specs.TreeOf.{unboxed}
use Rattle.vx_array.proofs.Unpacked.{below_length}
use Rattle.vx_array.proofs.node.bit_packed_v2_rows.decoded_in_blocks.Goals as goal

pub block_written-values-requires-clause-rows : goal.block_written-values-requires-clause-rows
block_written-values-requires-clause-rows c =
    let row = λ (i : ℕ). whole_or_zero (packed_in_block c.as_slice.result.now (map int (wholes_of c.args.offsets.now)) i) in
    let len = ap length c.in_ok-values.ensures.1 ∙ below_length row c.args.len in
    subst (λ n. IfSome (unboxed c.args.patches.now) (λ p. n ≡ p.array_len)) (sym len) c.requires.rows

pub behind-requires : goal.behind-requires
behind-requires c =
    let offsets = map int (wholes_of c.args.offsets.now) in
    let bits = c.in_ok-values.ensures.1 ∙ ap (λ bytes. below (λ i. whole_or_zero (packed_in_block bytes offsets i)) c.args.len) c.as_slice.ensures in
    let len = ap length bits ∙ below_length (λ i. whole_or_zero (packed_in_block c.args.packed.now offsets i)) c.args.len in
    let wholes = c.block_written-values.ensures.wholes c.args.packed.now offsets c.args.len len bits in
    let out = ap length wholes ∙ below_length (λ i. whole_or_zero (block_or_patch c.args.packed.now offsets (unboxed c.args.patches.now) i)) c.args.len in
    (λ i. validity_length (c.in_ok-copy_validity.ensures i) (out i)) ∙ c.requires.bits

pub returns : goal.returns
returns c =
    let offsets = map int (wholes_of c.args.offsets.now) in
    let bits = c.in_ok-values.ensures.1 ∙ ap (λ bytes. below (λ i. whole_or_zero (packed_in_block bytes offsets i)) c.args.len) c.as_slice.ensures in
    let len = ap length bits ∙ below_length (λ i. whole_or_zero (packed_in_block c.args.packed.now offsets i)) c.args.len in
    let wholes = c.block_written-values.ensures.wholes c.args.packed.now offsets c.args.len len bits in
    let valid = c.in_ok-copy_validity.ensures in
    let h = c.behind.ensures in
    (h.0 ∙ ap ints (c.block_written-values.ensures.ptype ∙ c.in_ok-values.ensures.0), h.1 ∙ (λ i. map int (zeroed_by (pos 0) (valid i) (wholes i))), h.2 ∙ valid)
