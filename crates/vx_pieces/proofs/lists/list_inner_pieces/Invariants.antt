use Rattle.std.proofs.Common.{◌≡◌, take}
use Rattle.std.specs.Prelude.{slice_index_or}
use Rattle.vx_pieces.specs.Pieces.{inner_pieces}
use Rattle.vx_pieces.proofs.lists.list_inner_pieces.Given as goal

abbrev pub invariant-loop-piece : goal.invariant-loop-piece
invariant-loop-piece l = l.inner.items ≡ inner_pieces (λ row. slice_index_or l.offsets row 0) 0 (take l.piece-index l.pieces)
