use Rattle.std.proofs.Common.{◌≡◌, ◌∙◌, ◌≤◌, ◌+◌, ◌*◌, ℕ, ap, arith, false, length, map, sym, take}
use Rattle.std.proofs.lemmas.List.{length-take-le, take_all}
use Rattle.vx_rows.proofs.BlockLemmas.{answers-long, answers-next, block-long, block-rows, block-written, block_of}
use Rattle.vx_rows.proofs.kernels.blocks.test_each.Goals as goal

pub loop-block-preserved : goal.loop-block-preserved
loop-block-preserved g c =
    let whole = g.T.Integer.whole in
    let passes = g.W.WholeTest.passes c.args.test.now in
    let items = c.args.items.now in
    let start : ℕ = 1024 * c.loop-block.block in
    let n : ℕ = c.min.result in
    let k : ℕ = 1024 * (c.loop-block.block + 1) in
    let few = c.min.ensures in
    let on : k ≡ start + 1024 = omega arith in
    let before : start ≤ length items = omega (arith, c.loop-block-test.true, c.div_ceil-block-end.ensures) in
    let done = c.loop-block.bits.items in
    let part = c.write.new.bits in
    let size : length done ≡ start = answers-long passes whole (take start items) done c.loop-block.invariant ∙ length-take-le start items before in
    let long : length part ≡ n = answers-long passes whole (block_of start n items) part c.write.ensures ∙ block-long items start n k few on before in
    block-written done c.resize.new.self.items part _ false start n _ c.resize.new.self.len (sym size) c.in_ok-resize.ensures.items (omega (arith, size)) long (omega (arith, c.in_ok-resize.ensures.len))
    ∙ answers-next passes whole (take start items) (block_of start n items) (take k items) done part (block-rows items start n k few on before) c.loop-block.invariant c.write.ensures

pub returns : goal.returns
returns g c =
    let passes = g.W.WholeTest.passes c.args.test.now in
    c.from_bits.ensures ∙ c.loop-block.invariant
    ∙ ap (λ ys. map passes (map g.T.Integer.whole ys)) (take_all (1024 * c.loop-block.block) c.args.items.now (omega (arith, c.loop-block-test.false, c.div_ceil-block-end.ensures)))
