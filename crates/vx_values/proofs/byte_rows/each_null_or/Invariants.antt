use Rattle.std.proofs.Common.{◌≡◌, true, map, take}
use Rattle.vx_base.specs.PlainValue.{bytes}
use Rattle.vx_model.specs.Leaf.{each_null_or}
use Rattle.vx_model.specs.Rows.{valid_rows}
use Rattle.vx_values.proofs.byte_rows.each_null_or.Given as goal

abbrev pub invariant-loop-row : goal.invariant-loop-row
invariant-loop-row l = each_null_or (bytes l.fn.value) (take l.row (valid_rows l.valid (map bytes l.rows))) ≡ true
