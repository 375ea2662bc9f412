use Rattle.std.proofs.Common.{◌≡◌, ◌+◌, take, true}
use Rattle.std.specs.List.{list_all}
use Rattle.vx_model.specs.Rows.{rows}
use Rattle.vx_model.specs.WellFormed.{lies_between}
use Rattle.vx_array.proofs.node.offsets.lie_within.Given as goal

abbrev pub invariant-loop-place : goal.invariant-loop-place
invariant-loop-place l = list_all (lies_between 0 (l.items + 1)) (take l.place (rows l.offsets)) ≡ true
