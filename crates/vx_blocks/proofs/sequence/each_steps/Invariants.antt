use Rattle.std.proofs.Common.{length, ◌-◌, ◌<◌, ℕ, map}
use Rattle.vx_blocks.specs.Sequence.{IsWrappedStep}
use Rattle.vx_blocks.proofs.sequence.each_steps.Given as goal

abbrev pub invariant-loop-start : goal.invariant-loop-start
invariant-loop-start g l = record {
  some : 0 < l.start;
  so_far : (k : ℕ) → 0 < k → k < l.start → IsWrappedStep g.T.Integer.kind (map g.T.Integer.whole l.values) (g.T.Integer.whole l.step) k;
}

abbrev pub decreases-loop-start : goal.decreases-loop-start
decreases-loop-start g l = length l.values - l.start
