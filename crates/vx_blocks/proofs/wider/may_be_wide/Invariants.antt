use Rattle.std.proofs.Common.{◌≤◌, ◌<◌, ℕ, map, get_or}
use Rattle.vx_base.specs.Integers.{bits_in}
use Rattle.vx_blocks.proofs.wider.may_be_wide.Given as goal

abbrev pub invariant-loop-i : goal.invariant-loop-i
invariant-loop-i g l = (k : ℕ) → l.start ≤ k → k < l.i → get_or (map (bits_in g.T.Integer.kind) (map g.T.Integer.whole l.values)) k 0 ≤ l.bits
