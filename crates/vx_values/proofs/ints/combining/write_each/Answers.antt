use Rattle.std.proofs.Common.{◌≡◌, ◌<◌, ◌+◌, ◌∙◌, ℕ, ℤ, pos, get_or, map, length, ap, arith, to_z, of_z}
use Rattle.std.specs.Prelude.{◌+ℤ◌, ◌*ℤ◌}
use Rattle.std.specs.Int.{w64, w128}
use Rattle.std.proofs.lemmas.Int.{to_z-of_z}
use Rattle.std.proofs.lemmas.List.{length-map}
use Rattle.std.proofs.lemmas.List.FromFn.{fill_by_all}
use Rattle.vx_base.specs.declared.ptype.PType.TheVariants.{I64}
use Rattle.vx_base.specs.Wrapping.{wrap}
use Rattle.vx_blocks.proofs.Written.{written-more}
use Rattle.vx_values.proofs.DifferenceRows.{part-long}
use Rattle.vx_values.proofs.PartSums.{item-part, from-zero}
use Rattle.vx_values.proofs.ints.combining.write_each.Goals as goal

pub loop-row-preserved : goal.loop-row-preserved
loop-row-preserved g c =
    let row : ℕ = c.loop-row.row in
    let items = c.args.items.now in
    let whole = g.S.Integer.whole in
    let factor = to_z w64 (of_z w64 c.args.factor) in
    let f : ℕ → ℤ = λ k. wrap I64 (get_or (map g.T.Integer.whole items) (c.args.start + k) (pos 0) *ℤ factor) in
    let here : row < length c.args.sums.now = omega (arith, c.loop-row-test.true, part-long items c.args.start (length c.args.sums.now) c.requires.room) in
    let item : to_z w128 (of_z w128 c.to_whole.result) ≡ get_or (map g.T.Integer.whole items) (c.args.start + row) (pos 0) =
    to_z-of_z w128 c.to_whole.result (record { sfits = c.to_whole.type_inv }) ∙ c.to_whole.ensures.value
    ∙ item-part g.T.Integer.whole items c.args.start (length c.args.sums.now) row c.index-part-row.result c.requires.room here c.index-part-row.is
    in
    let is : whole c.plus_product.result ≡ f row = c.plus_product.ensures ∙ (λ i. wrap I64 (c.zero.ensures i +ℤ item i *ℤ factor)) ∙ ap (wrap I64) (from-zero _) in
    written-more whole (pos 0) f c.loop-row.sums row c.plus_product.result (row + 1) (omega (arith, c.loop-row.auto.sums)) is c.loop-row.invariant (omega arith)

pub returns : goal.returns
returns g c =
    let whole = g.S.Integer.whole in
    let items = c.args.items.now in
    let f : ℤ → ℕ → ℤ = λ factor k. wrap I64 (get_or (map g.T.Integer.whole items) (c.args.start + k) (pos 0) *ℤ factor) in
    let size = length-map c.loop-row.sums whole in
    let all = part-long items c.args.start (length c.args.sums.now) c.requires.room in
    fill_by_all (f c.args.factor) (map whole c.loop-row.sums) (length c.args.sums.now) (pos 0) (omega (arith, size, c.loop-row.auto.sums))
    (λ k lt. c.loop-row.invariant k (omega (arith, all, c.loop-row-test.false)) ∙ ap (λ z. f z k) (to_z-of_z w64 c.args.factor c.ranges.factor))
