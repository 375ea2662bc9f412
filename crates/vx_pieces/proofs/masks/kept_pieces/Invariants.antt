use Rattle.std.proofs.Common.{◌≡◌, List, length, take}
use Rattle.vx_base.specs.PlainValue.{PlainValue}
use Rattle.vx_pieces.specs.Kept.{kept_items}
use Rattle.vx_pieces.specs.Pieces.{Gives}
use Rattle.vx_pieces.proofs.masks.kept_pieces.Given as goal

abbrev pub invariant-loop-row : goal.invariant-loop-row
invariant-loop-row l = (item : PlainValue) (values : List PlainValue) → length values ≡ length l.keep → Gives item l.pieces.items values (kept_items (take l.row l.keep) values)
