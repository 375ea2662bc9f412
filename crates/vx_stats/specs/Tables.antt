-- Counting tables: a count for each number of a range, and the numbers that occur.
use Rattle.std.specs.Prelude.{ℕ, zero, suc, ◌==◌, ℤ, pos, ◌+ℤ◌, ◌≤ℤ◌, if◌then◌else◌, List, [], ◌∷◌}
use Rattle.vx_stats.specs.Distinct.{times}

-- least ≤ z ≤ greatest
abbrev pub LiesBetween : ℤ → ℤ → ℤ → Type 0
LiesBetween least greatest z = (least ≤ℤ z) × (z ≤ℤ greatest)

-- the counts of n numbers from the least on
abbrev pub table_of : ℤ → ℕ → List ℤ → List ℕ
table_of least zero zs = []
table_of least (suc n) zs = times zs least ∷ table_of (least +ℤ pos 1) n zs

-- the numbers with a count above 0, and that count, of a table from the least number on
abbrev pub entries : ℤ → List ℕ → List (ℤ × ℕ)
entries least [] = []
entries least (n ∷ ns) = if n == 0 then entries (least +ℤ pos 1) ns else (least, n) ∷ entries (least +ℤ pos 1) ns
