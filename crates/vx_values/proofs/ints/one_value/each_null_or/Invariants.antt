use Rattle.std.proofs.Common.{◌≡◌, true, map, take}
use Rattle.vx_base.specs.PlainValue.{int}
use Rattle.vx_model.specs.Leaf.{each_null_or}
use Rattle.vx_model.specs.Rows.{valid_rows}
use Rattle.vx_values.proofs.ints.one_value.each_null_or.Given as goal

abbrev pub invariant-loop-row : goal.invariant-loop-row
invariant-loop-row g l = each_null_or (int l.fn.whole) (take l.row (valid_rows l.valid (map int (map g.T.Integer.whole l.items)))) ≡ true
