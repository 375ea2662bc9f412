use Rattle.std.proofs.Common.{◌≡◌, ◌≤◌, List, length, take}
use Rattle.vx_base.specs.PlainValue.{PlainValue, null}
use Rattle.vx_model.specs.Rows.{masked_rows}
use Rattle.vx_pieces.specs.Kept.{kept_items}
use Rattle.vx_pieces.specs.Pieces.{Gives}
use Rattle.vx_pieces.proofs.spread.spread_pieces.Given as goal

-- the pieces give the rows so far, and `next` of the kept rows are used
abbrev pub invariant-loop-row : goal.invariant-loop-row
invariant-loop-row l = record {
  few : l.next ≤ l.row;
  kept : (values : List PlainValue) → length values ≡ length l.keep → l.next ≡ length (kept_items (take l.row l.keep) values);
  gives : (values : List PlainValue) → length values ≡ length l.keep → Gives null l.pieces.items (kept_items l.keep values) (masked_rows (take l.row l.keep) values);
}
