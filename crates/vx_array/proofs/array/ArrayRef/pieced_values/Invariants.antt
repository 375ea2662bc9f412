use Rattle.std.proofs.Common.{◌≡◌, map, take}
use Rattle.vx_base.specs.Defaults.{null_or_default}
use Rattle.vx_base.specs.TypeOf.{value_of}
use Rattle.vx_model.specs.Rows.{rows}
use Rattle.vx_model.specs.TreeType.{tree_type}
use Rattle.vx_pieces.specs.Pieces.{pieced}
use Rattle.vx_array.proofs.array.ArrayRef.pieced_values.Given as goal

abbrev pub invariant-loop-piece : goal.invariant-loop-piece
invariant-loop-piece l = map value_of l.values.items ≡ pieced (null_or_default (tree_type l.self)) (take l.piece-index l.pieces) (rows l.self)
