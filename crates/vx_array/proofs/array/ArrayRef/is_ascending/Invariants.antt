use Rattle.std.proofs.Common.{◌≡◌, ◌+◌, ◌≤◌, drop}
use Rattle.vx_model.specs.Rows.{rows}
use Rattle.vx_model.specs.WellFormed.{ascend}
use Rattle.vx_array.proofs.array.ArrayRef.is_ascending.Given as goal

abbrev pub invariant-loop-row : goal.invariant-loop-row
invariant-loop-row l =
    (ascend l.fn.offset (l.fn.offset + l.fn.len) (rows l.fn.self) ≡ ascend l.low (l.fn.offset + l.fn.len) (drop l.row (rows l.fn.self)))
    × (l.low ≤ l.fn.offset + l.fn.len)
