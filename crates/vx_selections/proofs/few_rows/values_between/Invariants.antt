use Rattle.std.proofs.Common.{◌≡◌, map}
use Rattle.vx_base.specs.Masks.{rows_between}
use Rattle.vx_base.specs.TypeOf.{value_of}
use Rattle.vx_model.specs.Rows.{rows}
use Rattle.vx_selections.proofs.few_rows.values_between.Given as goal

abbrev pub invariant-loop-row : goal.invariant-loop-row
invariant-loop-row l = map value_of l.values.items ≡ rows_between (rows l.tree) l.fn.start l.row
