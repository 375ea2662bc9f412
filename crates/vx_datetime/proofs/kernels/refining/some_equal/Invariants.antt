use Rattle.std.proofs.Common.{◌≡◌, ◌<◌, ◌≤◌, ℕ, false}
use Rattle.std.specs.Ordering.{is_eq}
use Rattle.vx_datetime.specs.Orders.{order_in}
use Rattle.vx_datetime.proofs.kernels.refining.some_equal.Given as goal

abbrev pub invariant-loop-row : goal.invariant-loop-row
invariant-loop-row l = l.found ≡ false → (i : ℕ) → l.fn.start ≤ i → i < l.row → is_eq (order_in l.orders i) ≡ false
