use Rattle.std.proofs.Common.{◌≡◌, map, take}
use Rattle.vx_pieces.specs.Pieces.{in_one_row}
use Rattle.vx_pieces.proofs.spread.one_row_pieces.Given as goal

abbrev pub invariant-loop-piece : goal.invariant-loop-piece
invariant-loop-piece l = l.made.items ≡ map in_one_row (take l.piece-index l.pieces)
