use Rattle.std.proofs.Common.{◌≡◌, length, map, take}
use Rattle.vx_base.specs.PlainValue.{bytes}
use Rattle.vx_model.specs.Rows.{valid_rows}
use Rattle.vx_rows.specs.Items.{plain_item}
use Rattle.vx_rows.proofs.TextLemmas.{found_in}
use Rattle.vx_rows.proofs.matching.columns.stored_liked.Given as goal

abbrev pub invariant-loop-row : goal.invariant-loop-row
invariant-loop-row l = record {
  long : length l.bits.items ≡ length l.rows;
  done : take l.row l.bits.items ≡ map (found_in l.options (map plain_item l.items)) (take l.row (valid_rows l.valid (map bytes l.rows)));
}
