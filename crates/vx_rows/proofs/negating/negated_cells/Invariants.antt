use Rattle.std.proofs.Common.{◌≡◌, length, map, take}
use Rattle.vx_rules.specs.Comparisons.{negated}
use Rattle.vx_rows.specs.Readable.{lent_rows}
use Rattle.vx_rows.proofs.negating.negated_cells.Given as goal

abbrev pub invariant-loop-row : goal.invariant-loop-row
invariant-loop-row l = record {
  long : length l.truths ≡ length (lent_rows l.rows);
  done : take l.row l.truths ≡ map negated (take l.row (lent_rows l.rows));
}
