use Rattle.std.proofs.Common.{◌≡◌, ◌∙◌, ◌<◌, ◌+◌, ◌*◌, ◌≤◌, ℕ, ℤ, pos, get_or, length, map, ap, arith, sym}
use Rattle.std.specs.Prelude.{◌+ℤ◌}
use Rattle.std.proofs.lemmas.List.{get_or-map, length-map}
use Rattle.std.proofs.lemmas.List.FromFn.{fill_by_all}
use Rattle.vx_base.specs.Wrapping.{wrap}
use Rattle.vx_blocks.proofs.Written.{grown-written}
use Rattle.vx_values.proofs.BlockGrowth.{grown-all, grown-more, grown-none}
use Rattle.vx_values.proofs.BlockSums.{mapped-part, mapped-part_length}
use Rattle.vx_values.proofs.ints.frame_of_reference.sums.Goals as goal

pub loop-block-init : goal.loop-block-init
loop-block-init g c = grown-none (pos 0) _ (length c.args.differences.now) g.T.Integer.whole c.in_ok-items.items.items c.in_ok-items.ensures.items

pub loop-block-preserved : goal.loop-block-preserved
loop-block-preserved g c =
    let whole = g.T.Integer.whole in
    let natural = g.D.Integer.whole in
    let differences = c.args.differences.now in
    let start = 1024 * c.loop-block.block in
    let n : ℕ = c.min.result in
    let items = c.loop-block.items.items in
    let part = c.write_sums.new.items in
    let before : start < length differences = omega (arith, c.loop-block-test.true, c.div_ceil-block-end.ensures) in
    let room : start + n ≤ length differences = omega (arith, before, c.min.ensures) in
    let size : length items ≡ start = sym (length-map items whole) ∙ c.loop-block.invariant.full before in
    let sum : ℤ → ℤ = λ z. wrap g.T.Integer.kind (whole c.args.reference +ℤ z) in
    let long : length part ≡ n = sym (length-map part whole) ∙ mapped-part_length sum natural differences (map whole part) start n room c.write_sums.ensures in
    let written = grown-written items c.resize.new.self.items part _ c.zero.result start n _ c.resize.new.self.len (sym size) c.in_ok-resize.ensures.items (omega (arith, size)) long (omega (arith, c.in_ok-resize.ensures.len)) in
    grown-more (pos 0) (λ i. sum (get_or (map natural differences) i (pos 0))) (length differences) whole items part _ start n (1024 * (c.loop-block.block + 1)) before c.min.ensures (omega arith) long written c.loop-block.invariant
    (mapped-part sum natural differences (map whole part) start n room c.write_sums.ensures)

pub returns : goal.returns
returns g c =
    let natural = g.D.Integer.whole in
    let differences = c.args.differences.now in
    let sum : ℤ → ℤ = λ z. wrap g.T.Integer.kind (g.T.Integer.whole c.args.reference +ℤ z) in
    let long : length (map sum (map natural differences)) ≡ length differences = length-map (map natural differences) sum ∙ length-map differences natural in
    ap (map g.T.Integer.whole) c.from_vec.ensures ∙ grown-all (pos 0) _ (length differences) _ (1024 * c.loop-block.block) (omega (arith, c.loop-block-test.false, c.div_ceil-block-end.ensures)) c.loop-block.invariant
    ∙ sym (fill_by_all (λ i. sum (get_or (map natural differences) i (pos 0))) (map sum (map natural differences)) (length differences) (pos 0) long (λ k lt. get_or-map sum (map natural differences) k (pos 0) (pos 0) (omega (arith, lt, length-map differences natural))))
