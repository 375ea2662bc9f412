use Rattle.std.proofs.Common.{◌≡◌, ◌*◌, map, take}
use Rattle.std.specs.Ordering.{int_cmp}
use Rattle.vx_rules.specs.Comparisons.{holds}
use Rattle.vx_rows.specs.Pairs.{each_pair}
use Rattle.vx_rows.proofs.kernels.pairs.holds_each.Given as goal

abbrev pub invariant-loop-block : goal.invariant-loop-block
invariant-loop-block g l = l.bits.items ≡ each_pair (λ z w. holds l.operator (int_cmp z w)) (map g.T.Integer.whole (take (1024 * l.block) l.items)) (map g.T.Integer.whole (take (1024 * l.block) l.others))
