use Rattle.std.proofs.Common.{◌≡◌, ◌≤◌, ◌<◌, ℕ, true, map}
use Rattle.vx_blocks.specs.Sequence.{IsWrappedStep}
use Rattle.vx_blocks.proofs.sequence.few_step.Given as goal

abbrev pub invariant-loop-i : goal.invariant-loop-i
invariant-loop-i g l =
    let P = IsWrappedStep g.T.Integer.kind (map g.T.Integer.whole l.values) (g.T.Integer.whole l.step) in
    record {
      there : l.all ≡ true → (k : ℕ) → l.start ≤ k → k < l.i → P k;
      back : ((k : ℕ) → l.start ≤ k → k < l.i → P k) → l.all ≡ true;
    }
