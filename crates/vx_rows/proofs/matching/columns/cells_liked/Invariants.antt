use Rattle.std.proofs.Common.{◌≡◌, length, map, take}
use Rattle.vx_rows.specs.Items.{plain_item}
use Rattle.vx_rows.specs.Readable.{lent_rows}
use Rattle.vx_rows.specs.Texts.{liked_items}
use Rattle.vx_rows.proofs.matching.columns.cells_liked.Given as goal

abbrev pub invariant-loop-row : goal.invariant-loop-row
invariant-loop-row l = record {
  long : length l.truths ≡ length (lent_rows l.texts);
  done : take l.row l.truths ≡ map (λ v. liked_items l.options v (map plain_item l.items)) (take l.row (lent_rows l.texts));
}
