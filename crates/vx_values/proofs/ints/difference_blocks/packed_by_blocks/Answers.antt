use Rattle.std.proofs.Common.{◌≡◌, ◌∙◌, ◌+◌, ◌-◌, ◌*◌, ◌<◌, ◌≤◌, ◌++◌, length, map, min, replicate, take, drop, true, sym, ap, subst, arith}
use Rattle.std.specs.Prelude.{unwrap_or}
use Rattle.std.proofs.lemmas.List.{length-map}
use Rattle.vx_blocks.specs.IsPacked.{IsPacked}
use Rattle.vx_values.proofs.DifferenceBlocks.{packed-append, written-all}
use Rattle.vx_values.proofs.DifferenceRows as rows
use Rattle.vx_values.proofs.ints.difference_blocks.packed_by_blocks.Goals as goal

pub block_packed-requires-clause-room : goal.block_packed-requires-clause-room
block_packed-requires-clause-room g c =
    let items = c.args.items.now in
    omega (arith, rows.part-long items (1024 * c.loop-block.block) c.min-count.result (omega (arith, c.min-count.ensures, c.loop-block-test.true, c.div_ceil-blocks.ensures)), c.min-count.ensures, c.as_mut_slice.ensures.value, c.loop-block.invariant.room)

pub block_packed-requires-clause-same : goal.block_packed-requires-clause-same
block_packed-requires-clause-same g c =
    let items = c.args.items.now in
    let start = 1024 * c.loop-block.block in
    let n = c.min-count.result in
    let room : start + n ≤ length items = omega (arith, c.min-count.ensures, c.loop-block-test.true, c.div_ceil-blocks.ensures) in
    let all = unwrap_or c.args.valid.now (replicate (length items) true) in
    let long = rows.bits-long c.args.valid.now (length items) c.requires.same in
    ap length c.in_ok-bits.ensures ∙ rows.part-long all start n (omega (arith, room, long)) ∙ sym (rows.part-long items start n room)

pub loop-block-preserved : goal.loop-block-preserved
loop-block-preserved g c =
    let items = c.args.items.now in
    let whole = g.T.Integer.whole in
    let block = c.loop-block.block in
    let n = c.min-count.result in
    let same = length-map items whole in
    let all = unwrap_or c.args.valid.now (replicate (length (map whole items)) true) in
    let long : length all ≡ length items = ap (λ k. length (unwrap_or c.args.valid.now (replicate k true))) same ∙ rows.bits-long c.args.valid.now (length items) c.requires.same in
    let of = rows.rows whole g.T.Integer.kind (whole c.args.reference) c.args.width items all in
    let some : 1024 * block < length items = omega (arith, c.loop-block-test.true, c.div_ceil-blocks.ensures) in
    let here : min (1024 * block) (length items) ≡ 1024 * block = omega arith in
    let next : 1024 * block + n ≡ min (1024 * (block + 1)) (length items) = omega (arith, c.min-count.ensures) in
    let bits = c.in_ok-bits.ensures ∙ ap (λ k. take (1024 * block + n - 1024 * block) (drop (1024 * block) (unwrap_or c.args.valid.now (replicate k true)))) (sym same) in
    let made = subst (λ r. IsPacked c.args.width r c.in_ok-more.more.items) (rows.rows-part whole g.T.Integer.kind (whole c.args.reference) c.args.width items all (1024 * block) n _ bits) c.in_ok-more.ensures in
    let before = subst (λ e. IsPacked c.args.width (take e of) c.loop-block.packed.items) here c.loop-block.invariant.packed in
    let room : 1024 * block + n ≤ length of = omega (arith, c.min-count.ensures, rows.rows-length whole g.T.Integer.kind (whole c.args.reference) c.args.width items all long) in
    let bytes : c.extend_from_slice.new.self.items ≡ c.loop-block.packed.items ++ c.in_ok-more.more.items = c.in_ok-extend_from_slice.ensures.items ∙ ap (λ l. c.loop-block.packed.items ++ l) c.as_slice.ensures.value in
    let after = packed-append c.args.width block n of c.loop-block.packed.items c.in_ok-more.more.items room before made in
    let size : length c.block_packed.new.buffer ≡ length c.loop-block.buffer.items = c.block_packed.auto.buffer ∙ ap length c.as_mut_slice.ensures.value in
    record {
      packed = rw bytes (subst (λ e. IsPacked c.args.width (take e of) (c.loop-block.packed.items ++ c.in_ok-more.more.items)) next after);
      room = ap length (written-all c.loop-block.buffer.items c.block_packed.new.buffer c.loop-block.buffer.len c.loop-block.buffer.ok.0 size) ∙ size ∙ c.loop-block.invariant.room;
    }

pub returns : goal.returns
returns g c =
    let items = c.args.items.now in
    let whole = g.T.Integer.whole in
    let same = length-map items whole in
    let all = unwrap_or c.args.valid.now (replicate (length (map whole items)) true) in
    let long : length all ≡ length items = ap (λ k. length (unwrap_or c.args.valid.now (replicate k true))) same ∙ rows.bits-long c.args.valid.now (length items) c.requires.same in
    let end : length items ≤ min (1024 * c.loop-block.block) (length items) = omega (arith, c.loop-block-test.false, c.loop-block.auto.block-end, c.div_ceil-blocks.ensures) in
    subst (λ r. IsPacked c.args.width r c.loop-block.packed.items) (rows.rows-all whole g.T.Integer.kind (whole c.args.reference) c.args.width items all long _ end) c.loop-block.invariant.packed
