-- The bytes that a bit width costs, and the cheapest width.
use Rattle.std.specs.Prelude.{ℕ, ◌+◌, ◌*◌, ◌/◌, ◌≤◌, ◌<◌, List, sum, drop}

-- the packed rows, width * rows / 8 rounded up, and for each row that needs more bits a patch: its value and an index of
-- 4 bytes. Entry w of `counts` is the number of rows of exactly w digits.
abbrev pub cost : List ℕ → ℕ → ℕ → ℕ
cost counts bytes width = (width * sum counts + 7) / 8 + sum (drop (width + 1) counts) * (bytes + 4)

-- the narrowest of the cheapest widths from 0 to the greatest
pub record IsBest (cost_of : ℕ → ℕ) (greatest width : ℕ) : Type 0 where
  pub within : width ≤ greatest
  pub least : (v : ℕ) → v ≤ greatest → cost_of width ≤ cost_of v
  pub first : (v : ℕ) → v < width → cost_of width < cost_of v
