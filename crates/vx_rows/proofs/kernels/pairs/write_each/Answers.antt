use Rattle.std.proofs.Common.{◌≡◌, ◌<◌, ◌∙◌, ◌++◌, ◌∷◌, [], ap, sym, map, length, get_or, arith}
use Rattle.std.specs.Ordering.{int_cmp}
use Rattle.std.proofs.lemmas.List.{length-map, get_or-map, take_more_set}
use Rattle.vx_rules.specs.Comparisons.{holds}
use Rattle.vx_rows.proofs.PairLemmas.{each_pair-next}
use Rattle.vx_rows.proofs.kernels.pairs.write_each.Goals as goal

pub loop-row-preserved : goal.loop-row-preserved
loop-row-preserved g c =
    let whole = g.T.Integer.whole in
    let items = c.args.items.now in
    let others = c.args.others.now in
    let row = c.loop-row.row in
    let x = c.index-items-row.result in
    let y = c.index-others-row.result in
    let here : row < length items = omega arith in
    let there : row < length others = omega arith in
    let within : row < length c.loop-row.bits = omega (arith, c.loop-row.auto.bits) in
    let left : whole x ≡ get_or (map whole items) row (whole x) = sym (get_or-map whole items row x (whole x) here ∙ ap whole (sym c.index-items-row.is)) in
    let right : whole y ≡ get_or (map whole others) row (whole y) = sym (get_or-map whole others row y (whole y) there ∙ ap whole (sym c.index-others-row.is)) in
    take_more_set c.loop-row.bits row c.item_holds.result within ∙ (λ i. c.loop-row.invariant i ++ c.item_holds.ensures i ∷ [])
    ∙ sym (each_pair-next (λ z w. holds c.args.operator (int_cmp z w)) (map whole items) (map whole others) row (whole x) (whole y) (omega (arith, length-map items whole)) (omega (arith, length-map others whole)) left right)
