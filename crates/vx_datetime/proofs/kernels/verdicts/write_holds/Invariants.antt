use Rattle.std.proofs.Common.{◌≡◌, take}
use Rattle.vx_model.specs.Rows.{below}
use Rattle.vx_datetime.specs.Orders.{order_in}
use Rattle.vx_rules.specs.Comparisons.{holds}
use Rattle.vx_datetime.proofs.kernels.verdicts.write_holds.Given as goal

abbrev pub invariant-loop-row : goal.invariant-loop-row
invariant-loop-row l = take l.row l.bits ≡ below (λ i. holds l.fn.operator (order_in l.orders i)) l.row
