use Rattle.std.proofs.Common.{◌≡◌, length, take}
use Rattle.vx_rules.specs.Comparisons.{compared}
use Rattle.vx_rows.specs.Pairs.{each_pair}
use Rattle.vx_rows.specs.Readable.{lent_rows}
use Rattle.vx_rows.proofs.comparing.columns.compared_cells.Given as goal

abbrev pub invariant-loop-row : goal.invariant-loop-row
invariant-loop-row l = record {
  long : length l.truths ≡ length (lent_rows l.left);
  done : take l.row l.truths ≡ each_pair (compared l.operator) (take l.row (lent_rows l.left)) (take l.row (lent_rows l.right));
}
