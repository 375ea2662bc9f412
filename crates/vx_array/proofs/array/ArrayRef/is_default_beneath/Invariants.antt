use Rattle.std.proofs.Common.{◌≡◌, take, true}
use Rattle.vx_array.specs.Beneath.{is_default}
use Rattle.vx_model.specs.Decoded.{zero_beneath}
use Rattle.vx_model.specs.Rows.{rows}
use Rattle.vx_model.specs.TreeType.{tree_type}
use Rattle.vx_array.proofs.array.ArrayRef.is_default_beneath.Given as goal

abbrev pub invariant-loop-row : goal.invariant-loop-row
invariant-loop-row l = zero_beneath (is_default (tree_type l.self)) (take l.row l.bits) (rows l.self) ≡ true
