use Rattle.std.proofs.Common.{◌≡◌, map, take}
use Rattle.std.specs.Prelude.{◌&&◌}
use Rattle.std.specs.Ordering.{int_cmp}
use Rattle.vx_rules.specs.Comparisons.{holds}
use Rattle.vx_rows.proofs.kernels.within.write_within.Given as goal

abbrev pub invariant-loop-row : goal.invariant-loop-row
invariant-loop-row g l = take l.row l.bits ≡ map (λ z. holds l.lower (int_cmp (g.T.Integer.whole l.low) z) && holds l.upper (int_cmp z (g.T.Integer.whole l.high))) (map g.T.Integer.whole (take l.row l.items))
