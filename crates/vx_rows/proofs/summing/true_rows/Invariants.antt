use Rattle.std.proofs.Common.{◌≡◌, take}
use Rattle.std.specs.Prelude.{count_by}
use Rattle.vx_base.specs.PlainValue.{truth_or_false}
use Rattle.vx_rows.specs.Readable.{lent_rows}
use Rattle.vx_rows.proofs.summing.true_rows.Given as goal

abbrev pub invariant-loop-row : goal.invariant-loop-row
invariant-loop-row l = l.count ≡ count_by truth_or_false (take l.row (lent_rows l.rows))
