-- Rows as optional whole numbers, and which of them are equal.
use Rattle.std.specs.Prelude.{ℕ, ◌-◌, ℤ, Bool, true, false, not, if◌then◌else◌, List, [], ◌∷◌, slice_index_or, Option, Some, None}
use Rattle.std.specs.Ordering.{int_eq}

-- a row, None where it is null
abbrev pub optional_row : ℤ → Bool → Option ℤ
optional_row z valid = if valid then Some z else None

-- rows from their numbers and their validity
abbrev pub optional_rows : List ℤ → List Bool → List (Option ℤ)
optional_rows [] valid = []
optional_rows (z ∷ zs) [] = []
optional_rows (z ∷ zs) (v ∷ valid) = optional_row z v ∷ optional_rows zs valid

-- whether two rows are equal; a null equals a null
abbrev pub same_row : Option ℤ → Option ℤ → Bool
same_row None None = true
same_row None (Some w) = false
same_row (Some z) None = false
same_row (Some z) (Some w) = int_eq z w

-- whether a row differs from the row before it
abbrev pub differs : List (Option ℤ) → ℕ → Bool
differs rows i = not (same_row (slice_index_or rows (i - 1) None) (slice_index_or rows i None))
