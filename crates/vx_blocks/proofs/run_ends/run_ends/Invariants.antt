use Rattle.std.proofs.Common.{◌≡◌, ◌-◌, map}
use Rattle.vx_blocks.specs.Optional.{optional_rows}
use Rattle.vx_blocks.proofs.RunEnds.{ends_to}
use Rattle.vx_blocks.proofs.run_ends.run_ends.Given as goal

abbrev pub invariant-loop-i : goal.invariant-loop-i
invariant-loop-i g l = l.ends.items ≡ ends_to (optional_rows (map g.T.Integer.whole l.values) l.valid) (l.i - 1)
