use Rattle.std.proofs.Common.{◌≤◌, ◌-◌, length}
use Rattle.vx_model.specs.Rows.{rows}
use Rattle.vx_model.specs.WellFormed.{indices_below}
use Rattle.vx_array.proofs.patches.chunks.place_behind.Given as goal

abbrev pub invariant-loop-place : goal.invariant-loop-place
invariant-loop-place l = l.place ≤ indices_below l.bound (rows l.fn.indices)

abbrev pub decreases-loop-place : goal.decreases-loop-place
decreases-loop-place l = length (rows l.fn.indices) - l.place
