use Rattle.std.proofs.Common.{◌≡◌, ◌<◌, ◌∙◌, ap, arith, cond, false, get_or, length, map, sym}
use Rattle.std.specs.Ordering.{int_cmp, ord_max, ord_min}
use Rattle.std.proofs.lemmas.List.{get_or-map, length-map}
use Rattle.vx_rows.proofs.WeighedLemmas.{greatest-more, least-more}
use Rattle.vx_rows.proofs.kernels.bounds.valid_extremes.Goals as goal

pub loop-row-preserved : goal.loop-row-preserved
loop-row-preserved g c =
    let whole = g.T.Integer.whole in
    let items = c.args.items.now in
    let mask = c.args.mask.now in
    let first = whole c.args.first in
    let row = c.loop-row.row in
    let x = c.index-items-row.result in
    let here : row < length items = omega arith in
    let bits : row < length mask = omega (arith, c.requires) in
    let wholes : row < length (map whole items) = omega (arith, length-map items whole) in
    let at : whole x ≡ get_or (map whole items) row (whole x) = sym (get_or-map whole items row x (whole x) here ∙ ap whole (sym c.index-items-row.is)) in
    record {
      least = c.lesser-least.ensures ∙ ap (ord_min int_cmp (whole c.loop-row.least)) c.weighed-item.ensures ∙ ap (λ m. ord_min int_cmp m (cond (get_or mask row false) (whole x) first)) c.loop-row.invariant.least ∙ least-more first mask (map whole items) row (whole x) bits wholes at;
      greatest = c.greater-greatest.ensures ∙ ap (ord_max int_cmp (whole c.loop-row.greatest)) c.weighed-item.ensures ∙ ap (λ m. ord_max int_cmp m (cond (get_or mask row false) (whole x) first)) c.loop-row.invariant.greatest ∙ greatest-more first mask (map whole items) row (whole x) bits wholes at;
    }
