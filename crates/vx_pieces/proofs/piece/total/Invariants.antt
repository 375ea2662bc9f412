use Rattle.std.proofs.Common.{◌≡◌, ◌<◌, ◌^◌, take}
use Rattle.vx_pieces.specs.Pieces.{pieces_count}
use Rattle.vx_pieces.proofs.piece.total.Given as goal

abbrev pub invariant-loop-piece : goal.invariant-loop-piece
invariant-loop-piece l = (l.count ≡ pieces_count (take l.piece-index l.pieces)) × (l.count < 2 ^ 64)
