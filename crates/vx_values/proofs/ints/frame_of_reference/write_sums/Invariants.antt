use Rattle.std.proofs.Common.{◌≡◌, map, take}
use Rattle.std.specs.Prelude.{◌+ℤ◌}
use Rattle.vx_base.specs.Wrapping.{wrap}
use Rattle.vx_values.proofs.ints.frame_of_reference.write_sums.Given as goal

abbrev pub invariant-loop-row : goal.invariant-loop-row
invariant-loop-row g l = map g.T.Integer.whole (take l.row l.items) ≡ map (λ z. wrap g.T.Integer.kind (g.T.Integer.whole l.reference +ℤ z)) (map g.D.Integer.whole (take l.row l.differences))
