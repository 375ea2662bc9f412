use Rattle.std.proofs.Common.{map}
use Rattle.vx_datetime.specs.Orders.{AreOrdered, refined_at}
use Rattle.vx_datetime.proofs.kernels.refining.refine_by.Given as goal

abbrev pub invariant-loop-row : goal.invariant-loop-row
invariant-loop-row g l = AreOrdered (refined_at l.fn.orders (map g.T.Integer.whole l.items) (λ i. g.T.Integer.whole l.other)) l.fn.orders l.orders l.fn.start l.row
