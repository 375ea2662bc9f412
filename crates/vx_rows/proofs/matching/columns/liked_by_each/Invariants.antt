use Rattle.std.proofs.Common.{◌≡◌, length, take}
use Rattle.vx_rules.specs.Patterns.{liked}
use Rattle.vx_rows.specs.Pairs.{each_pair}
use Rattle.vx_rows.specs.Readable.{lent_rows}
use Rattle.vx_rows.proofs.matching.columns.liked_by_each.Given as goal

abbrev pub invariant-loop-row : goal.invariant-loop-row
invariant-loop-row l = record {
  long : length l.truths ≡ length (lent_rows l.texts);
  done : take l.row l.truths ≡ each_pair (liked l.options) (take l.row (lent_rows l.texts)) (take l.row (lent_rows l.patterns));
}
