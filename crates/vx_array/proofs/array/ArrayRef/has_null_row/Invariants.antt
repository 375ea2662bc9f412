use Rattle.std.proofs.Common.{◌≡◌, take, false}
use Rattle.std.specs.List.{list_any}
use Rattle.vx_base.specs.PlainValue.{is_null}
use Rattle.vx_model.specs.Rows.{rows}
use Rattle.vx_array.proofs.array.ArrayRef.has_null_row.Given as goal

abbrev pub invariant-loop-row : goal.invariant-loop-row
invariant-loop-row l = list_any is_null (take l.row (rows l.self)) ≡ false
