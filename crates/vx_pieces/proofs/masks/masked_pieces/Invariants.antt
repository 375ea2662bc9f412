use Rattle.std.proofs.Common.{◌≡◌, List, length, take}
use Rattle.vx_base.specs.PlainValue.{PlainValue, null}
use Rattle.vx_model.specs.Rows.{masked_rows}
use Rattle.vx_pieces.specs.Pieces.{Gives}
use Rattle.vx_pieces.proofs.masks.masked_pieces.Given as goal

abbrev pub invariant-loop-row : goal.invariant-loop-row
invariant-loop-row l = (values : List PlainValue) → length values ≡ length l.keep → Gives null l.pieces.items values (masked_rows (take l.row l.keep) values)
