use Rattle.std.proofs.Common.{◌≡◌, map, take}
use Rattle.std.specs.Ordering.{int_cmp}
use Rattle.vx_rules.specs.Comparisons.{holds}
use Rattle.vx_rows.specs.Pairs.{each_pair}
use Rattle.vx_rows.proofs.kernels.pairs.write_each.Given as goal

abbrev pub invariant-loop-row : goal.invariant-loop-row
invariant-loop-row g l = take l.row l.bits ≡ each_pair (λ z w. holds l.operator (int_cmp z w)) (take l.row (map g.T.Integer.whole l.items)) (take l.row (map g.T.Integer.whole l.others))
