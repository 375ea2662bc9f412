use Rattle.std.proofs.Common.{◌≡◌, ◌∙◌, ◌+◌, ◌-◌, ◌*◌, length, map, get_or, arith, sym, subst}
use Rattle.std.proofs.lemmas.List.{length-map}
use Rattle.vx_base.specs.Integers.{bits_in}
use Rattle.vx_blocks.proofs.Blocks.{kept_rows-slices, sum-most}
use Rattle.vx_blocks.proofs.PackedSoFar.{PackedSoFar, packed-all, packed-next, packed-none}
use Rattle.vx_blocks.proofs.packing_in_blocks.pack_blocks_of.Goals as goal

pub total-requires : goal.total-requires
total-requires g c =
    let most = sum-most 64 c.args.widths.now c.requires.within in
    omega (arith, most, c.requires.blocks)

pub loop-block-init : goal.loop-block-init
loop-block-init g c =
    let bits = map (bits_in g.T.Integer.kind) (map g.T.Integer.whole c.args.values.now) in
    subst (PackedSoFar c.args.widths.now bits c.args.valid.now 0) (sym c.in_ok-out.ensures.items) (packed-none c.args.widths.now bits c.args.valid.now)

pub loop-block-preserved : goal.loop-block-preserved
loop-block-preserved g c =
    let f = bits_in g.T.Integer.kind in
    let h = g.T.Integer.whole in
    let xs = c.args.values.now in
    let bits = map f (map h xs) in
    let block = c.loop-block.block in
    let part = 1024 * block + c.min.result - 1024 * block in
    let len : length bits ≡ length xs = length-map (map h xs) f ∙ length-map xs h in
    let slices = kept_rows-slices f h (get_or c.args.widths.now block 0) xs c.args.valid.now block part c.requires.same (omega (arith, c.min.ensures)) in
    packed-next c.args.widths.now bits c.args.valid.now block c.loop-block.out.items _ _ c.loop-block.invariant (omega arith) (omega (arith, len, c.requires.blocks)) (omega (arith, len, c.requires.same)) (rw c.as_slice.ensures.value at c.known_bytes.ensures)
    (omega (arith, c.in_ok-out-2.ensures.size, c.len.ensures)) slices c.in_ok-out-2.ensures.number

pub returns : goal.returns
returns g c =
    let bits = map (bits_in g.T.Integer.kind) (map g.T.Integer.whole c.args.values.now) in
    packed-all c.args.widths.now bits c.args.valid.now c.loop-block.block c.loop-block.out.items c.loop-block.invariant (omega arith)
