use Rattle.std.proofs.Common.{◌≡◌, map, take}
use Rattle.vx_base.specs.PlainValue.{int}
use Rattle.vx_base.specs.TypeOf.{value_of}
use Rattle.vx_model.specs.Rows.{looked_up, rows, valid_rows}
use Rattle.vx_values.specs.IntsOf.{wholes_of}
use Rattle.vx_selections.proofs.few_rows.values_at.Given as goal

abbrev pub invariant-loop-row : goal.invariant-loop-row
invariant-loop-row l = map value_of l.values.items ≡ map (looked_up (rows l.tree)) (take l.row (valid_rows l.valid (map int (wholes_of l.codes))))
