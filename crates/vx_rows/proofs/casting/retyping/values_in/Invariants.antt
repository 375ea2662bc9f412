use Rattle.std.proofs.Common.{◌≡◌, map, take}
use Rattle.vx_base.specs.TypeOf.{value_of}
use Rattle.vx_model.specs.Rows.{rows}
use Rattle.vx_rows.proofs.casting.retyping.values_in.Given as goal

abbrev pub invariant-loop-row : goal.invariant-loop-row
invariant-loop-row l = map value_of l.values.items ≡ take l.row (rows l.tree)
