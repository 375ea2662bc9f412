use Rattle.std.proofs.Common.{◌≡◌, ◌<◌, ◌≤◌, ℕ, map, true}
use Rattle.vx_base.specs.Integers.{lies_in}
use Rattle.vx_datetime.specs.Orders.{whole_in}
use Rattle.vx_datetime.proofs.kernels.refining.known.Given as goal

abbrev pub invariant-loop-row : goal.invariant-loop-row
invariant-loop-row g l = (i : ℕ) → l.fn.start ≤ i → i < l.row → lies_in g.T.Integer.kind (whole_in (map g.T.Integer.whole l.items) i) ≡ true
