use Rattle.std.proofs.Common.{◌<◌, ◌∙◌, ap, arith, false, get_or, length, map, sym, take}
use Rattle.std.specs.Prelude.{◌&&◌, ◌||◌, not}
use Rattle.std.specs.Int.{w128}
use Rattle.std.proofs.lemmas.Int.{to_z-of_z}
use Rattle.std.proofs.lemmas.List.{length-map, take_all}
use Rattle.vx_base.specs.Integers.{lies_in}
use Rattle.vx_rows.specs.Conversions.{masked_in}
use Rattle.vx_rows.proofs.ConvertLemmas.{masked-more}
use Rattle.vx_rows.proofs.TotalLemmas.{item-at}
use Rattle.vx_rows.proofs.kernels.conversions.valid_lie_in.Goals as goal

pub loop-row-preserved : goal.loop-row-preserved
loop-row-preserved g c =
    let whole = g.T.Integer.whole in
    let items = c.args.items.now in
    let mask = c.args.mask.now in
    let row = c.loop-row.row in
    let x = c.index-items-row.result in
    let here : row < length items = omega arith in
    let bits : row < length mask = omega (arith, c.requires) in
    let wholes : row < length (map whole items) = omega (arith, length-map items whole) in
    let number = to_z-of_z w128 c.to_whole.result (record { sfits = c.to_whole.type_inv }) ∙ c.to_whole.ensures.value in
    (λ i. c.loop-row.invariant i && (not (get_or mask row false) || c.is_in.ensures i))
    ∙ ap (λ z. masked_in c.args.ptype (take row mask) (take row (map whole items)) && (not (get_or mask row false) || lies_in c.args.ptype z)) number
    ∙ sym (masked-more c.args.ptype mask (map whole items) row (whole x) bits wholes (item-at whole items row x here c.index-items-row.is))

pub returns : goal.returns
returns g c =
    let zs = map g.T.Integer.whole c.args.items.now in
    let row = c.loop-row.row in
    let all = take_all row zs (omega (arith, length-map c.args.items.now g.T.Integer.whole)) in
    let bits = take_all row c.args.mask.now (omega (arith, c.requires)) in
    c.loop-row.invariant ∙ (λ i. masked_in c.args.ptype (bits i) (all i))
