use Rattle.std.proofs.Common.{◌≡◌, ◌<◌, ◌≢◌, ◌+◌, ◌∙◌, ℕ, ℤ, pos, get_or, get_or-set_other, map, length, sym, ap, arith, to_z, of_z}
use Rattle.std.specs.Prelude.{◌+ℤ◌, ◌*ℤ◌}
use Rattle.std.specs.Int.{w64, w128}
use Rattle.std.proofs.lemmas.Int.{to_z-of_z}
use Rattle.std.proofs.lemmas.List.{length-map, map-set, get_or-map}
use Rattle.std.proofs.lemmas.List.FromFn.{fill_by_all}
use Rattle.vx_base.specs.declared.ptype.PType.TheVariants.{I64}
use Rattle.vx_base.specs.Wrapping.{wrap}
use Rattle.vx_blocks.proofs.Written.{written-more}
use Rattle.vx_values.proofs.DifferenceRows.{part-long}
use Rattle.vx_values.proofs.PartSums.{item-part}
use Rattle.vx_values.proofs.ints.combining.add_each.Goals as goal

pub loop-row-preserved : goal.loop-row-preserved
loop-row-preserved g c =
    let row : ℕ = c.loop-row.row in
    let sums = c.loop-row.sums in
    let items = c.args.items.now in
    let whole = g.S.Integer.whole in
    let factor = to_z w64 (of_z w64 c.args.factor) in
    let f : ℕ → ℤ = λ k. wrap I64 (get_or (map whole c.args.sums.now) k (pos 0) +ℤ get_or (map g.T.Integer.whole items) (c.args.start + k) (pos 0) *ℤ factor) in
    let here : row < length c.args.sums.now = omega (arith, c.loop-row-test.true, part-long items c.args.start (length c.args.sums.now) c.requires.room) in
    let item : to_z w128 (of_z w128 c.to_whole.result) ≡ get_or (map g.T.Integer.whole items) (c.args.start + row) (pos 0) =
    to_z-of_z w128 c.to_whole.result (record { sfits = c.to_whole.type_inv }) ∙ c.to_whole.ensures.value
    ∙ item-part g.T.Integer.whole items c.args.start (length c.args.sums.now) row c.index-part-row.result c.requires.room here c.index-part-row.is
    in
    let sum : whole c.index-sums-row.result ≡ get_or (map whole c.args.sums.now) row (pos 0) = ap whole c.index-sums-row.is ∙ sym (get_or-map whole sums row c.index-sums-row.result (pos 0) (omega (arith, c.loop-row.auto.sums))) ∙ c.loop-row.invariant.left row (omega arith) in
    record {
      done = written-more whole (pos 0) f sums row c.plus_product.result (row + 1) (omega (arith, c.loop-row.auto.sums)) (c.plus_product.ensures ∙ (λ i. wrap I64 (sum i +ℤ item i *ℤ factor))) c.loop-row.invariant.done (omega arith);
      left = λ k far. let ne : k ≢ row = omega arith in ap (λ l. get_or l k (pos 0)) (map-set whole sums row c.plus_product.result) ∙ rw get_or-set_other (c.loop-row.invariant.left k (omega arith));
    }

pub returns : goal.returns
returns g c =
    let whole = g.S.Integer.whole in
    let items = c.args.items.now in
    let f : ℤ → ℕ → ℤ = λ factor k. wrap I64 (get_or (map whole c.args.sums.now) k (pos 0) +ℤ get_or (map g.T.Integer.whole items) (c.args.start + k) (pos 0) *ℤ factor) in
    let size = length-map c.loop-row.sums whole in
    let old = length-map c.args.sums.now whole in
    let all = part-long items c.args.start (length c.args.sums.now) c.requires.room in
    fill_by_all (f c.args.factor) (map whole c.loop-row.sums) (length (map whole c.args.sums.now)) (pos 0) (omega (arith, size, old, c.loop-row.auto.sums))
    (λ k lt. c.loop-row.invariant.done k (omega (arith, old, all, c.loop-row-test.false)) ∙ ap (λ z. f z k) (to_z-of_z w64 c.args.factor c.ranges.factor))
