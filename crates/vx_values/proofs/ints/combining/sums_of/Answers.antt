use Rattle.std.proofs.Common.{◌≡◌, ◌∙◌, ◌<◌, ◌+◌, ◌*◌, ℕ, ℤ, pos, List, length, map, ap, arith, to_z, of_z, sym}
use Rattle.std.specs.Int.{w64}
use Rattle.std.specs.List.{range_with_len}
use Rattle.std.proofs.lemmas.Int.{to_z-of_z}
use Rattle.std.proofs.lemmas.List.{length-map}
use Rattle.vx_blocks.proofs.Written.{grown-written}
use Rattle.vx_values.specs.Combined.{sum_at, scaled}
use Rattle.vx_values.specs.IntsOf.{wholes_of}
use Rattle.vx_values.proofs.BlockGrowth.{grown-all, grown-more, grown-none}
use Rattle.vx_values.proofs.PartSums.{all-added, length-three}
use Rattle.vx_values.proofs.ints.combining.sums_of.Goals as goal

pub loop-block-init : goal.loop-block-init
loop-block-init g c = grown-none (pos 0) _ c.len-len.result g.S.Integer.whole c.in_ok-sums.sums.items c.in_ok-sums.ensures.items

pub loop-block-preserved : goal.loop-block-preserved
loop-block-preserved g c =
    let whole = g.S.Integer.whole in
    let start = 1024 * c.loop-block.block in
    let n : ℕ = c.min.result in
    let items = c.loop-block.sums.items in
    let part = c.add_to-in-loop-block.new.sums in
    let before : start < c.len-len.result = omega (arith, c.loop-block-test.true, c.div_ceil-block-end.ensures) in
    let size : length items ≡ start = sym (length-map items whole) ∙ c.loop-block.invariant.full before in
    let x = to_z w64 (of_z w64 c.args.of_days) in
    let y = to_z w64 (of_z w64 c.args.of_seconds) in
    let days = wholes_of c.args.days.now in
    let seconds = wholes_of c.args.seconds.now in
    let subseconds = wholes_of c.args.subseconds.now in
    let room : length c.slice_mut-part.result.now ≡ n = omega (arith, c.slice_mut-part.ensures.len, c.in_ok-resize.ensures.len) in
    let first = c.write_to.ensures ∙ ap (scaled start x days) room in
    let one = map whole c.write_to.new.sums in
    let two = map whole c.add_to.new.sums in
    let long : length part ≡ n = sym (length-map part whole) ∙ length-three start n x y days seconds subseconds one two (map whole part) first c.add_to.ensures c.add_to-in-loop-block.ensures in
    let written = grown-written items c.resize.new.self.items part _ c.zero.result start n _ c.resize.new.self.len (sym size) c.in_ok-resize.ensures.items (omega (arith, size)) long (omega (arith, c.in_ok-resize.ensures.len)) in
    grown-more (pos 0) (sum_at x y days seconds subseconds) c.len-len.result whole items part _ start n (1024 * (c.loop-block.block + 1)) before c.min.ensures (omega arith) long written c.loop-block.invariant
    (all-added start n x y days seconds subseconds one two (map whole part) first c.add_to.ensures c.add_to-in-loop-block.ensures)

pub returns : goal.returns
returns g c =
    let f : ℤ → ℤ → List ℤ = λ x y. map (sum_at x y (wholes_of c.args.days.now) (wholes_of c.args.seconds.now) (wholes_of c.args.subseconds.now)) (range_with_len 0 (length (wholes_of c.args.days.now))) in
    let a = to_z-of_z w64 c.args.of_days c.ranges.of_days in
    let b = to_z-of_z w64 c.args.of_seconds c.ranges.of_seconds in
    ap (map g.S.Integer.whole) c.from_vec.ensures ∙ grown-all (pos 0) _ c.len-len.result _ (1024 * c.loop-block.block) (omega (arith, c.loop-block-test.false, c.div_ceil-block-end.ensures)) c.loop-block.invariant
    ∙ ap (λ n. map (sum_at (to_z w64 (of_z w64 c.args.of_days)) (to_z w64 (of_z w64 c.args.of_seconds)) (wholes_of c.args.days.now) (wholes_of c.args.seconds.now) (wholes_of c.args.subseconds.now)) (range_with_len 0 n)) c.len-len.ensures
    ∙ (λ i. f (a i) (b i))
