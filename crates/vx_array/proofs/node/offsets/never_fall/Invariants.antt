use Rattle.std.proofs.Common.{◌≡◌, take, true}
use Rattle.vx_model.specs.Rows.{rows}
use Rattle.vx_model.specs.WellFormed.{never_falls}
use Rattle.vx_array.proofs.node.offsets.never_fall.Given as goal

abbrev pub invariant-loop-place : goal.invariant-loop-place
invariant-loop-place l = never_falls (take l.place (rows l.offsets)) ≡ true
