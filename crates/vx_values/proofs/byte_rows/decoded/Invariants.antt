use Rattle.std.proofs.Common.{◌≡◌}
use Rattle.vx_values.proofs.Kept.{kept_to}
use Rattle.vx_values.proofs.byte_rows.decoded.Given as goal

abbrev pub invariant-loop-row : goal.invariant-loop-row
invariant-loop-row l = l.copy.items ≡ kept_to l.rows l.valid l.row
