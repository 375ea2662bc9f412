use Rattle.std.proofs.Common.{◌≡◌, ◌<◌, ℕ, true}
use Rattle.vx_model.specs.Rows.{rows}
use Rattle.vx_model.specs.WellFormed.{is_canonical_at}
use Rattle.vx_array.proofs.node.parts_rows.rows_are_canonical.Given as goal

abbrev pub invariant-loop-row : goal.invariant-loop-row
invariant-loop-row l = (k : ℕ) → k < l.row → is_canonical_at l.divisor (rows l.days) (rows l.seconds) (rows l.subseconds) k ≡ true
