use Rattle.std.proofs.Common.{◌≡◌, ◌<◌, ℕ, true}
use Rattle.vx_flat.specs.CanonicalRows.{is_canonical_row}
use Rattle.vx_values.specs.IntsOf.{wholes_of}
use Rattle.vx_flat.proofs.datetime_parts.parts_are_canonical.Given as goal

abbrev pub invariant-loop-row : goal.invariant-loop-row
invariant-loop-row l = (k : ℕ) → k < l.row → is_canonical_row l.divisor (wholes_of l.days) l.valid (wholes_of l.seconds) (wholes_of l.subseconds) k ≡ true
