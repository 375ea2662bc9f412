use Rattle.std.proofs.Common.{◌<◌, ◌∙◌, ap, sym, cond, length, get_or, pos, arith, false}
use Rattle.std.specs.Int.{w128}
use Rattle.std.proofs.lemmas.Int.{to_z-of_z}
use Rattle.std.proofs.lemmas.List.{take_all}
use Rattle.vx_base.specs.Integers.{lies_in}
use Rattle.vx_base.specs.Undelta.{total}
use Rattle.vx_rows.proofs.TotalLemmas.{length-terms, next-signed, term-at, terms}
use Rattle.vx_rows.proofs.kernels.totals.signed_total_of_valid.Goals as goal

pub overflow_add-total : goal.overflow_add-total
overflow_add-total g c =
    let whole = g.T.Integer.whole in
    let items = c.args.items.now in
    let mask = c.args.mask.now in
    let zs = terms whole items mask in
    let x = c.index-items-row.result in
    let z = cond (get_or mask c.loop-row.row false) (whole x) (pos 0) in
    let long = length-terms whole items mask c.requires.lengths in
    let here : c.loop-row.row < length items = omega (arith, c.row_count-len.ensures) in
    let at = term-at whole items mask c.loop-row.row x c.requires.lengths here c.index-items-row.is in
    let item = to_z-of_z w128 c.signed_term-total.result (record { sfits = c.signed_term-total.type_inv }) ∙ c.signed_term-total.ensures.value in
    let fit = ap (lies_in g.T.Integer.kind) (sym c.signed_term-total.ensures.value) ∙ c.signed_term-total.ensures.held in
    let next = next-signed g.T.Integer.kind zs c.loop-row.row _ _ z c.requires.signed (omega (arith, long)) (omega (arith, long, c.row_count-len.ensures, c.row_count-len.type_inv)) at item fit c.loop-row.invariant.sum c.loop-row.invariant.held in
    next.fits

pub loop-row-preserved : goal.loop-row-preserved
loop-row-preserved g c =
    let whole = g.T.Integer.whole in
    let items = c.args.items.now in
    let mask = c.args.mask.now in
    let zs = terms whole items mask in
    let x = c.index-items-row.result in
    let z = cond (get_or mask c.loop-row.row false) (whole x) (pos 0) in
    let long = length-terms whole items mask c.requires.lengths in
    let here : c.loop-row.row < length items = omega (arith, c.row_count-len.ensures) in
    let at = term-at whole items mask c.loop-row.row x c.requires.lengths here c.index-items-row.is in
    let item = to_z-of_z w128 c.signed_term-total.result (record { sfits = c.signed_term-total.type_inv }) ∙ c.signed_term-total.ensures.value in
    let fit = ap (lies_in g.T.Integer.kind) (sym c.signed_term-total.ensures.value) ∙ c.signed_term-total.ensures.held in
    let next = next-signed g.T.Integer.kind zs c.loop-row.row _ _ z c.requires.signed (omega (arith, long)) (omega (arith, long, c.row_count-len.ensures, c.row_count-len.type_inv)) at item fit c.loop-row.invariant.sum c.loop-row.invariant.held in
    record { sum = to_z-of_z w128 _ next.fits ∙ next.is; held = next.held }

pub returns : goal.returns
returns g c =
    let zs = terms g.T.Integer.whole c.args.items.now c.args.mask.now in
    c.loop-row.invariant.sum ∙ ap total (take_all c.loop-row.row zs (omega (arith, c.row_count-len.ensures, length-terms g.T.Integer.whole c.args.items.now c.args.mask.now c.requires.lengths)))
