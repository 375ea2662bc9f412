-- Canonical parts in the rows of three columns.
use Rattle.std.specs.Prelude.{ℕ, ℤ, pos, Bool, ◌||◌, not, List, slice_index_or}
use Rattle.vx_model.specs.Rows.{is_valid_at}
use Rattle.vx_model.specs.Tree.{Validity}
use Rattle.vx_time.specs.CanonicalParts.{is_canonical}
use Rattle.vx_time.specs.PartsOf.{parts}

-- whether row i is null, or has canonical parts; d is the number of units in a second
abbrev pub is_canonical_row : ℤ → List ℤ → Validity → List ℤ → List ℤ → ℕ → Bool
is_canonical_row d days valid seconds subseconds i =
    not (is_valid_at valid i) || is_canonical d (parts (slice_index_or days i (pos 0)) (slice_index_or seconds i (pos 0)) (slice_index_or subseconds i (pos 0)))
