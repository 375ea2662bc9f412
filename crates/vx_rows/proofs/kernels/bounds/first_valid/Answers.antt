use Rattle.std.proofs.Common.{◌≡◌, ◌<◌, ◌∙◌, ap, arith, get_or, length, map, sym}
use Rattle.std.proofs.lemmas.List.{get_or-map, length-map}
use Rattle.vx_rows.proofs.WeighedLemmas.{first-found, none-more}
use Rattle.vx_rows.proofs.kernels.bounds.first_valid.Goals as goal

pub returns-then-mask-row : goal.returns-then-mask-row
returns-then-mask-row g c =
    let whole = g.T.Integer.whole in
    let items = c.args.items.now in
    let row = c.loop-row.row in
    let x = c.index-items-row.result in
    let here : row < length items = omega (arith, c.loop-row-test.true) in
    let at : whole x ≡ get_or (map whole items) row (whole x) = sym (get_or-map whole items row x (whole x) here ∙ ap whole (sym c.index-items-row.is)) in
    first-found c.args.mask.now (map whole items) row (whole x) (omega (arith, here, c.requires)) (omega (arith, here, length-map items whole)) c.loop-row.invariant c.if-mask-row.true at

pub loop-row-preserved : goal.loop-row-preserved
loop-row-preserved g c = none-more c.args.mask.now (map g.T.Integer.whole c.args.items.now) c.loop-row.row (omega (arith, c.loop-row-test.true, c.requires)) c.loop-row.invariant c.if-mask-row.false
