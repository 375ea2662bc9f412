use Rattle.std.proofs.Common.{◌≡◌, ◌++◌, map}
use Rattle.vx_base.specs.Masks.{rows_between}
use Rattle.vx_base.specs.TypeOf.{value_of}
use Rattle.vx_model.specs.Rows.{rows}
use Rattle.vx_pieces.specs.Pieces.{repeated}
use Rattle.vx_array.proofs.array.ArrayRef.add_blocks.Given as goal

abbrev pub invariant-loop-time : goal.invariant-loop-time
invariant-loop-time l = map value_of l.values.items ≡ map value_of l.initial.values.items ++ repeated l._time (rows_between (rows l.self) l.start l.end)
