use Rattle.std.proofs.Common.{◌≡◌, ◌∙◌, ap, false, map, pos, subst, sym}
use Rattle.std.specs.Int.{w128}
use Rattle.std.specs.Ordering.{int_cmp, ordering_then}
use Rattle.std.proofs.lemmas.Int.{to_z-of_z}
use Rattle.vx_base.specs.Integers.{lies_in}
use Rattle.vx_datetime.specs.Orders.{AreOrdered, order_in}
use Rattle.vx_datetime.proofs.OutsideOrders.{all-outside}
use Rattle.vx_datetime.proofs.kernels.refining.refine_with.Goals as goal

pub returns-in-None : goal.returns-in-None
returns-in-None g c =
    let whole = g.T.Integer.whole in
    let kind = g.T.Integer.kind in
    let orders = c.args.orders.now in
    let new = c.refine_all.new.orders in
    let w = c.args.whole in
    let back = to_z-of_z w128 w c.ranges.whole in
    let out : lies_in kind w ≡ false = ap (lies_in kind) (sym back) ∙ c.in-None.ensures in
    let order : c.cmp.result ≡ int_cmp (pos 0) w = c.cmp.ensures ∙ ap (int_cmp (pos 0)) back in
    all-outside kind orders new (map whole c.args.items.now) w c.args.start c.args.end c.known.ensures out
    (subst (λ o. AreOrdered (λ i. ordering_then (order_in orders i) o) orders new c.args.start c.args.end) order c.refine_all.ensures)
