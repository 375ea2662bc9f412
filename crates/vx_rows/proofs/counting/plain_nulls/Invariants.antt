use Rattle.std.proofs.Common.{◌≡◌, take}
use Rattle.std.specs.Prelude.{count_by}
use Rattle.vx_base.specs.PlainValue.{is_null}
use Rattle.vx_model.specs.Rows.{rows}
use Rattle.vx_rows.proofs.counting.plain_nulls.Given as goal

abbrev pub invariant-loop-row : goal.invariant-loop-row
invariant-loop-row l = l.count ≡ count_by is_null (take l.row (rows l.array))
