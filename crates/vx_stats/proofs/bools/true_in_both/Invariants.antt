use Rattle.std.proofs.Common.{◌≡◌, ◌+◌}
use Rattle.vx_stats.proofs.TruthLemmas.{trues_left}
use Rattle.vx_stats.proofs.bools.true_in_both.Given as goal

abbrev pub invariant-loop-row : goal.invariant-loop-row
invariant-loop-row l = l.count + trues_left l.bits l.mask l.row ≡ trues_left l.bits l.mask 0
