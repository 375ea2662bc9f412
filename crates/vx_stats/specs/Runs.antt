-- Runs of equal numbers, non-decreasing lists, and the greater of two counts.
use Rattle.std.specs.Prelude.{◌≡◌, ℕ, ◌+◌, nat_lt, ℤ, int_lt, false, if◌then◌else◌, ⊤, List, [], ◌∷◌, map}
use Rattle.std.specs.Ordering.{int_eq}

-- a value with its count, as a whole number
abbrev pub whole_count : {T : Type 0} → (T → ℤ) → T × ℕ → ℤ × ℕ
whole_count whole c = (whole c.0, c.1)

-- a list of values with their counts, as whole numbers
abbrev pub whole_counts : {T : Type 0} → (T → ℤ) → List (T × ℕ) → List (ℤ × ℕ)
whole_counts whole counts = map (whole_count whole) counts

-- the runs of n times z followed by more numbers
abbrev pub runs_from : ℤ → ℕ → List ℤ → List (ℤ × ℕ)
runs_from z n [] = (z, n) ∷ []
runs_from z n (w ∷ ws) = if int_eq z w then runs_from z (n + 1) ws else (z, n) ∷ runs_from w 1 ws

-- the maximal runs of equal numbers, in their order, each with its length
abbrev pub runs : List ℤ → List (ℤ × ℕ)
runs [] = []
runs (z ∷ zs) = runs_from z 1 zs

-- non-decreasing numbers after z, none of them below it
abbrev pub IsRisingFrom : ℤ → List ℤ → Type 0
IsRisingFrom z [] = ⊤
IsRisingFrom z (w ∷ ws) = (int_lt w z ≡ false) × IsRisingFrom w ws

-- non-decreasing numbers
abbrev pub IsRising : List ℤ → Type 0
IsRising [] = ⊤
IsRising (z ∷ zs) = IsRisingFrom z zs

-- the one with the greater count; the first where they tie
abbrev pub better : ℤ × ℕ → ℤ × ℕ → ℤ × ℕ
better best c = if nat_lt best.1 c.1 then c else best
