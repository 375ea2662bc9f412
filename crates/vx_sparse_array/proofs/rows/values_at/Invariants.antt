use Rattle.std.proofs.Common.{◌≡◌, map, take}
use Rattle.vx_base.specs.TypeOf.{value_of}
use Rattle.vx_model.specs.Rows.{rows, row_at}
use Rattle.vx_sparse_array.proofs.rows.values_at.Given as goal

abbrev pub invariant-loop-place : goal.invariant-loop-place
invariant-loop-place l = map value_of l.values.items ≡ map (row_at (rows l.array)) (take l.place l.numbers)
