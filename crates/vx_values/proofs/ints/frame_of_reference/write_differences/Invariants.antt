use Rattle.std.proofs.Common.{◌≡◌, map, take}
use Rattle.std.specs.Prelude.{◌-ℤ◌}
use Rattle.vx_base.specs.Integers.{unsigned_of}
use Rattle.vx_base.specs.Wrapping.{wrap}
use Rattle.vx_values.proofs.ints.frame_of_reference.write_differences.Given as goal

abbrev pub invariant-loop-row : goal.invariant-loop-row
invariant-loop-row g l = map g.D.Integer.whole (take l.row l.differences) ≡ map (λ z. wrap (unsigned_of g.T.Integer.kind) (z -ℤ g.T.Integer.whole l.reference)) (map g.T.Integer.whole (take l.row l.items))
