use Rattle.std.proofs.Common.{◌≡◌, ◌<◌, ◌∙◌, ap, arith, length, map, pos, subst, sym}
use Rattle.std.specs.Ordering.{int_cmp, ordering_then}
use Rattle.std.proofs.lemmas.List.{get_or-map}
use Rattle.vx_datetime.specs.Orders.{AreOrdered, refined_at, whole_in}
use Rattle.vx_datetime.proofs.Refinings.{next-row, none-set, one-more}
use Rattle.vx_datetime.proofs.kernels.refining.refine_by.Goals as goal

pub loop-row-init : goal.loop-row-init
loop-row-init g c = none-set (refined_at c.args.orders.now (map g.T.Integer.whole c.args.items.now) (λ i. g.T.Integer.whole c.args.other)) c.args.orders.now c.args.start

pub loop-row-preserved : goal.loop-row-preserved
loop-row-preserved g c =
    let whole = g.T.Integer.whole in
    let items = c.args.items.now in
    let orders = c.args.orders.now in
    let row = c.loop-row.row in
    let x = c.index-items-row.result in
    let so_far = c.loop-row.invariant in
    let f = refined_at orders (map whole items) (λ i. whole c.args.other) in
    let there : row < length items = omega (arith, so_far.long) in
    let within : row < length orders = omega (arith, so_far.long) in
    let item : whole x ≡ whole_in (map whole items) row = ap whole c.index-items-row.is ∙ sym (get_or-map whole items row x (pos 0) there) in
    let before = next-row f orders c.loop-row.orders c.args.start row so_far within in
    let here : c.refined.result ≡ f row = c.refined.ensures ∙ (λ i. ordering_then (before i) (int_cmp (item i) (whole c.args.other))) in
    one-more f orders c.loop-row.orders c.args.start row so_far c.refined.result (omega arith) within here

pub returns : goal.returns
returns g c =
    let last : c.loop-row.row ≡ c.args.end = omega (arith, c.loop-row.auto.row-end) in
    subst (AreOrdered (refined_at c.args.orders.now (map g.T.Integer.whole c.args.items.now) (λ i. g.T.Integer.whole c.args.other)) c.args.orders.now c.loop-row.orders c.args.start) last c.loop-row.invariant
