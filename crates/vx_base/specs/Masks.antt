-- Counts and ranges of masks; a mask is a list of truth values.
use Rattle.std.specs.Prelude.{ℕ, ◌-◌, Bool, List, take, drop, count_by, ◌&&◌, nat_le}

-- the number of true rows
abbrev pub true_count : List Bool → ℕ
true_count bits = count_by (λ b. b) bits

-- the number of true rows before `row`
abbrev pub rank : List Bool → ℕ → ℕ
rank bits row = true_count (take row bits)

-- the rows `start` to `end - 1`
abbrev pub rows_between : {A : Type 0} → List A → ℕ → ℕ → List A
rows_between rows start end = take (end - start) (drop start rows)

-- whether the range `start..end` is in bounds of `len` rows
abbrev pub is_part : ℕ → ℕ → ℕ → Bool
is_part len start end = nat_le start end && nat_le end len
