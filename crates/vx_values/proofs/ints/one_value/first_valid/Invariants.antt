use Rattle.std.proofs.Common.{◌≡◌, true, map, take}
use Rattle.std.specs.List.{list_all}
use Rattle.vx_base.specs.PlainValue.{int, is_null}
use Rattle.vx_model.specs.Rows.{valid_rows}
use Rattle.vx_values.proofs.ints.one_value.first_valid.Given as goal

abbrev pub invariant-loop-row : goal.invariant-loop-row
invariant-loop-row g l = list_all is_null (take l.row (valid_rows l.valid (map int (map g.T.Integer.whole l.items)))) ≡ true
