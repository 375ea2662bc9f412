use Rattle.vx_datetime.specs.Orders.{AreOrdered, refined_at, whole_in}
use Rattle.vx_values.specs.IntsOf.{wholes_of}
use Rattle.vx_datetime.proofs.kernels.refining.refine_unlike.Given as goal

abbrev pub invariant-loop-row : goal.invariant-loop-row
invariant-loop-row l = AreOrdered (refined_at l.fn.orders (wholes_of l.part) (whole_in (wholes_of l.other))) l.fn.orders l.orders l.fn.start l.row
