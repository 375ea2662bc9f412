use Rattle.std.proofs.Common.{◌≡◌, ◌<◌, ◌∙◌, map, length, arith}
use Rattle.std.specs.Int.{w128}
use Rattle.std.proofs.lemmas.Int.{to_z-of_z}
use Rattle.std.proofs.lemmas.List.{length-map}
use Rattle.vx_rows.proofs.TotalLemmas.{item-at, next-signed}
use Rattle.vx_rows.proofs.kernels.totals.signed_total.Goals as goal

pub overflow_add-total : goal.overflow_add-total
overflow_add-total g c =
    let whole = g.T.Integer.whole in
    let items = c.args.items.now in
    let zs = map whole items in
    let x = c.index-items-row.result in
    let long : length zs ≡ length items = length-map items whole in
    let here : c.loop-row.row < length items = omega (arith, c.row_count-len.ensures) in
    let item = to_z-of_z w128 c.to_whole-total.result (record { sfits = c.to_whole-total.type_inv }) ∙ c.to_whole-total.ensures.value in
    (next-signed g.T.Integer.kind zs c.loop-row.row _ _ (whole x) c.requires (omega (arith, long)) (omega (arith, long, c.row_count-len.ensures, c.row_count-len.type_inv)) (item-at whole items c.loop-row.row x here c.index-items-row.is) item c.to_whole-total.ensures.held c.loop-row.invariant.sum c.loop-row.invariant.held).fits

pub loop-row-preserved : goal.loop-row-preserved
loop-row-preserved g c =
    let whole = g.T.Integer.whole in
    let items = c.args.items.now in
    let zs = map whole items in
    let x = c.index-items-row.result in
    let long : length zs ≡ length items = length-map items whole in
    let here : c.loop-row.row < length items = omega (arith, c.row_count-len.ensures) in
    let item = to_z-of_z w128 c.to_whole-total.result (record { sfits = c.to_whole-total.type_inv }) ∙ c.to_whole-total.ensures.value in
    let next = next-signed g.T.Integer.kind zs c.loop-row.row _ _ (whole x) c.requires (omega (arith, long)) (omega (arith, long, c.row_count-len.ensures, c.row_count-len.type_inv)) (item-at whole items c.loop-row.row x here c.index-items-row.is) item c.to_whole-total.ensures.held c.loop-row.invariant.sum c.loop-row.invariant.held in
    record { sum = to_z-of_z w128 _ next.fits ∙ next.is; held = next.held }
