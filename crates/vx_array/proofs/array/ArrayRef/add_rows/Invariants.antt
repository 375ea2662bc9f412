use Rattle.std.proofs.Common.{◌≡◌, ◌++◌, map}
use Rattle.vx_base.specs.Masks.{rows_between}
use Rattle.vx_base.specs.TypeOf.{value_of}
use Rattle.vx_model.specs.Rows.{rows}
use Rattle.vx_array.proofs.array.ArrayRef.add_rows.Given as goal

abbrev pub invariant-loop-row : goal.invariant-loop-row
invariant-loop-row l = map value_of l.values.items ≡ map value_of l.initial.values.items ++ rows_between (rows l.self) l.start l.row
