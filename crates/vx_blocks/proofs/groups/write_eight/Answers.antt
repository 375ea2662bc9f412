use Rattle.std.proofs.Common.{arith, ◌≡◌, [], length, map, ap, ◌∙◌}
use Rattle.vx_base.specs.Packed.{kept_rows, packed_number}
use Rattle.vx_base.specs.Integers.{bits_in}
use Rattle.vx_blocks.proofs.Eights.{taken-so-far, next-row-behind, eight-end}
use Rattle.vx_blocks.proofs.Joins.{packed_number-bytes}
use Rattle.std.proofs.lemmas.Nat.{pow_below}
use Rattle.vx_blocks.proofs.Rows.{kept_rows-length}
use Rattle.vx_blocks.proofs.groups.write_eight.Goals as goal

pub loop-k-preserved : goal.loop-k-preserved
loop-k-preserved g c =
    let f = bits_in g.T.Integer.kind in
    let h = g.T.Integer.whole in
    let rows = kept_rows g.row.W (map f (map h c.args.values.now)) c.args.valid.now in
    let len = kept_rows-length f h g.row.W c.args.values.now c.args.valid.now c.requires.same in
    let taken = taken-so-far _ g.row.W c.loop-k.k c.loop-k.len c.loop-k.out _ _ c.loop-k.invariant.holds c.loop-k.invariant.within (omega arith) in
    record {
      within = omega (arith, taken, c.put_in.ensures.taken, c.put_in.auto.buffer, c.loop-k.auto.out, c.requires.bytes);
      holds = next-row-behind g.row.W rows c.args.at c.loop-k.k c.row_bits-bits.result _ _ _ (omega (arith, len, c.requires.room)) c.row_bits-bits.ensures.value (c.put_in.ensures.holds [] _ _ c.loop-k.invariant.holds);
    }

pub returns : goal.returns
returns g c =
    let is : packed_number 8 c.to_le_bytes.result ≡ c.loop-k.acc = ap (packed_number 8) c.to_le_bytes.ensures ∙ packed_number-bytes c.loop-k.acc (omega (arith, c.loop-k.invariant.holds.small, pow_below c.loop-k.fill 64 c.loop-k.invariant.holds.room)) in
    let all : c.loop-k.k ≡ 8 = omega arith in
    rw c.copy_from_slice.ensures.after (eight-end _ g.row.W c.loop-k.len c.loop-k.out c.to_le_bytes.result c.loop-k.acc c.loop-k.fill _ (rw all at c.loop-k.invariant.holds) c.loop-k.invariant.within is (ap length c.to_le_bytes.ensures))
