use Rattle.std.proofs.Common.{◌≡◌, take}
use Rattle.vx_pieces.specs.Pieces.{pieced}
use Rattle.vx_pieces.proofs.bytes.pieced_bytes.Given as goal

abbrev pub invariant-loop-piece : goal.invariant-loop-piece
invariant-loop-piece l = l.all.items ≡ pieced l.filling (take l.piece-index l.pieces) l.rows
