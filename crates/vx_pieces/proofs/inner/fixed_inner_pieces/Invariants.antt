use Rattle.std.proofs.Common.{◌≡◌, ◌*◌, take}
use Rattle.vx_pieces.specs.Pieces.{inner_pieces}
use Rattle.vx_pieces.proofs.inner.fixed_inner_pieces.Given as goal

abbrev pub invariant-loop-piece : goal.invariant-loop-piece
invariant-loop-piece l = l.inner.items ≡ inner_pieces (λ row. row * l.size) l.size (take l.piece-index l.pieces)
