-- Partial counts: numbers with counts, in any order. The count of a number is the sum over all its entries.
use Rattle.std.specs.Prelude.{◌≡◌, ℕ, ◌+◌, ◌==◌, ℤ, if◌then◌else◌, List, [], ◌∷◌, count_by}
use Rattle.std.specs.List.{sum_by}
use Rattle.std.specs.Ordering.{int_eq}
use Rattle.vx_stats.specs.Distinct.{times}
use Rattle.vx_stats.specs.Runs.{whole_count}
use Rattle.vx_stats.specs.declared.integer.seen.Seen.{Seen}

-- what one entry adds to the count of z
abbrev pub share : ℤ → ℤ × ℕ → ℕ
share z c = if int_eq z c.0 then c.1 else 0

-- the count of z over all entries
abbrev pub total : {T : Type 0} → (T → ℤ) → List (T × ℕ) → ℤ → ℕ
total whole counts z = sum_by (λ c. share z (whole_count whole c)) counts

-- the number of entries with count 0
abbrev pub empties : {T : Type 0} → List (T × ℕ) → ℕ
empties counts = count_by (λ c. c.1 == 0) counts

-- the count of z in the slots and among the evicted entries
abbrev pub times_seen : {T : Type 0} → (T → ℤ) → Seen T → ℤ → ℕ
times_seen whole seen z = total whole seen.slots.items z + total whole seen.evicted.items z

-- exactly the numbers zs were counted, and no evicted entry is empty
pub record AreSeen {T : Type 0} (whole : T → ℤ) (zs : List ℤ) (seen : Seen T) : Type 0 where
  pub totals : (z : ℤ) → times_seen whole seen z ≡ times zs z
  pub some : empties seen.evicted.items ≡ 0

-- adjacent entries of equal numbers summed up, after n of z
abbrev pub merged_from : ℤ → ℕ → List (ℤ × ℕ) → List (ℤ × ℕ)
merged_from z n [] = (z, n) ∷ []
merged_from z n (c ∷ cs) = if int_eq z c.0 then merged_from z (n + c.1) cs else (z, n) ∷ merged_from c.0 c.1 cs

-- adjacent entries of equal numbers summed up
abbrev pub merged : List (ℤ × ℕ) → List (ℤ × ℕ)
merged [] = []
merged (c ∷ cs) = merged_from c.0 c.1 cs
