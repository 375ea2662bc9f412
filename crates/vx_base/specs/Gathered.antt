-- Rows gathered by ranges; a range is half-open: its first row, and the row after its last.
use Rattle.std.specs.Prelude.{ℕ, Bool, List}
use Rattle.std.specs.List.{flat_map, list_all}
use Rattle.vx_base.specs.Masks.{rows_between, is_part}

-- the rows of each range, in the order of the ranges
abbrev pub gathered : {A : Type 0} → List (ℕ × ℕ) → List A → List A
gathered ranges rows = flat_map (λ r. rows_between rows r.0 r.1) ranges

-- whether each range is in bounds of `len` rows
abbrev pub are_parts : ℕ → List (ℕ × ℕ) → Bool
are_parts len ranges = list_all (λ r. is_part len r.0 r.1) ranges
