use Rattle.std.specs.Ordering.{ordering_then}
use Rattle.vx_datetime.specs.Orders.{AreOrdered, order_in}
use Rattle.vx_datetime.proofs.kernels.refining.refine_all.Given as goal

abbrev pub invariant-loop-row : goal.invariant-loop-row
invariant-loop-row l = AreOrdered (λ i. ordering_then (order_in l.fn.orders i) l.order) l.fn.orders l.orders l.fn.start l.row
