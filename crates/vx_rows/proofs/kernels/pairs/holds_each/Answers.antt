use Rattle.std.proofs.Common.{◌≡◌, ◌∙◌, ◌≤◌, ◌+◌, ◌-◌, ◌*◌, ℕ, ℤ, Bool, arith, false, length, map, min, sym, take}
use Rattle.std.specs.Ordering.{int_cmp}
use Rattle.std.proofs.lemmas.List.{length-take-le, take_all}
use Rattle.vx_rules.specs.Comparisons.{holds}
use Rattle.vx_rows.specs.Pairs.{each_pair}
use Rattle.vx_rows.proofs.BlockLemmas.{block-long, block-rows, block-written, block_of, pairs-long, pairs-next}
use Rattle.vx_rows.proofs.kernels.pairs.holds_each.Goals as goal

pub loop-block-preserved : goal.loop-block-preserved
loop-block-preserved g c =
    let whole = g.T.Integer.whole in
    let f : ℤ → ℤ → Bool = λ z w. holds c.args.operator (int_cmp z w) in
    let items = c.args.items.now in
    let others = c.args.others.now in
    let start : ℕ = 1024 * c.loop-block.block in
    let n : ℕ = c.min.result in
    let k : ℕ = 1024 * (c.loop-block.block + 1) in
    let few = c.min.ensures in
    let fewer : n ≡ min (length others - start) 1024 = omega (arith, c.min.ensures, c.requires) in
    let on : k ≡ start + 1024 = omega arith in
    let before : start ≤ length items = omega (arith, c.loop-block-test.true, c.div_ceil-block-end.ensures) in
    let prior : start ≤ length others = omega (arith, before, c.requires) in
    let done = c.loop-block.bits.items in
    let part = c.write_by_operator.new.bits in
    let front = length-take-le start items before in
    let same : length (take start items) ≡ length (take start others) = front ∙ sym (length-take-le start others prior) in
    let own = block-long items start n k few on before in
    let alike : length (block_of start n items) ≡ length (block_of start n others) = own ∙ sym (block-long others start n k fewer on prior) in
    let size : length done ≡ start = pairs-long f whole (take start items) (take start others) done same c.loop-block.invariant ∙ front in
    let long : length part ≡ n = pairs-long f whole (block_of start n items) (block_of start n others) part alike c.write_by_operator.ensures ∙ own in
    block-written done c.resize.new.self.items part _ false start n _ c.resize.new.self.len (sym size) c.in_ok-resize.ensures.items (omega (arith, size)) long (omega (arith, c.in_ok-resize.ensures.len))
    ∙ pairs-next f whole (take start items) (block_of start n items) (take k items) (take start others) (block_of start n others) (take k others) done part same (block-rows items start n k few on before) (block-rows others start n k fewer on prior) c.loop-block.invariant c.write_by_operator.ensures

pub returns : goal.returns
returns g c =
    let whole = g.T.Integer.whole in
    let end = 1024 * c.loop-block.block in
    let left = take_all end c.args.items.now (omega (arith, c.loop-block-test.false, c.div_ceil-block-end.ensures)) in
    let right = take_all end c.args.others.now (omega (arith, c.loop-block-test.false, c.div_ceil-block-end.ensures, c.requires)) in
    c.from_bits.ensures ∙ c.loop-block.invariant ∙ (λ i. each_pair (λ z w. holds c.args.operator (int_cmp z w)) (map whole (left i)) (map whole (right i)))
