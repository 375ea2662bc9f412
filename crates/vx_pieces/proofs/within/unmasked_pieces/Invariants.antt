use Rattle.std.proofs.Common.{◌≡◌, List, length, take}
use Rattle.vx_base.specs.PlainValue.{PlainValue, null}
use Rattle.vx_model.specs.Rows.{masked_rows}
use Rattle.vx_pieces.specs.Pieces.{Gives, pieced}
use Rattle.vx_pieces.proofs.within.unmasked_pieces.Given as goal

abbrev pub invariant-loop-piece : goal.invariant-loop-piece
invariant-loop-piece l = (values : List PlainValue) → length values ≡ length l.mask → Gives null l.out.items values (pieced null (take l.piece-index l.pieces) (masked_rows l.mask values))
