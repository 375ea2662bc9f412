-- The distinct numbers of a list with their counts, and the most frequent one.
use Rattle.std.specs.Prelude.{ℕ, ◌==◌, max, ℤ, pos, int_lt, if◌then◌else◌, List, [], ◌∷◌, map, count_by, fold}
use Rattle.std.specs.List.{find}
use Rattle.std.specs.Option.{unwrap_or}
use Rattle.std.specs.Ordering.{int_eq}

-- how often a number occurs
abbrev pub times : List ℤ → ℤ → ℕ
times zs z = count_by (int_eq z) zs

-- a number inserted into ascending ones, unless it is there already
abbrev pub with_number : ℤ → List ℤ → List ℤ
with_number z [] = z ∷ []
with_number z (w ∷ ws) = if int_lt z w then z ∷ w ∷ ws else if int_eq z w then w ∷ ws else w ∷ with_number z ws

-- the distinct numbers, ascending
abbrev pub distinct : List ℤ → List ℤ
distinct [] = []
distinct (z ∷ zs) = with_number z (distinct zs)

-- each distinct number with its count, ascending
abbrev pub value_counts : List ℤ → List (ℤ × ℕ)
value_counts zs = map (λ z. (z, times zs z)) (distinct zs)

-- the greatest count; 0 of an empty list
abbrev pub greatest_count : List (ℤ × ℕ) → ℕ
greatest_count counts = fold max 0 (map (λ c. c.1) counts)

-- the most frequent number with its count, the least one where several tie; (0, 0) of an empty list
abbrev pub most_frequent : List (ℤ × ℕ) → ℤ × ℕ
most_frequent counts = unwrap_or (find (λ c. c.1 == greatest_count counts) counts) (pos 0, 0)
