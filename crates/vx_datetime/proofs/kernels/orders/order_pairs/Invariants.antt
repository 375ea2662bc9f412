use Rattle.std.proofs.Common.{◌-◌, ◌≤◌, length}
use Rattle.vx_datetime.specs.Moments.{row_parts}
use Rattle.vx_datetime.specs.Orders.{AreOrdered}
use Rattle.vx_time.specs.CanonicalParts.{parts_cmp}
use Rattle.vx_datetime.proofs.kernels.orders.order_pairs.Given as goal

abbrev pub invariant-loop-start : goal.invariant-loop-start
invariant-loop-start l = AreOrdered (λ i. parts_cmp (row_parts l.rows i) (row_parts l.others i)) l.fn.orders l.orders 0 l.start × (l.start ≤ length l.orders)

abbrev pub decreases-loop-start : goal.decreases-loop-start
decreases-loop-start l = length l.orders - l.start
