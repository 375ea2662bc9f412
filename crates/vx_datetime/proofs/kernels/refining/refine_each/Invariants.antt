use Rattle.std.proofs.Common.{map}
use Rattle.vx_datetime.specs.Orders.{AreOrdered, refined_at, whole_in}
use Rattle.vx_datetime.proofs.kernels.refining.refine_each.Given as goal

abbrev pub invariant-loop-row : goal.invariant-loop-row
invariant-loop-row g l = AreOrdered (refined_at l.fn.orders (map g.T.Integer.whole l.items) (whole_in (map g.T.Integer.whole l.others))) l.fn.orders l.orders l.fn.start l.row
