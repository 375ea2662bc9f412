-- Row limits of sites: a part of a column has at most 1,024 rows more than the column.
use Rattle.std.specs.Prelude.{◌≤◌, ℕ, ◌+◌, ◌-◌, ◌*◌, ◌^◌, length}
use Rattle.vx_model.specs.Column.{Column}
use Rattle.vx_model.specs.Site.{max_cascade}

-- the most rows of a column at a site with this budget: 2^31, one for the offset behind the last list, and 1,024 for each scheme above
abbrev pub most_site_rows : ℕ → ℕ
most_site_rows budget = 2 ^ 31 + 1 + 1024 * (max_cascade - budget)

-- the most rows of a part of it
abbrev pub most_part_rows : ℕ → ℕ
most_part_rows budget = 2 ^ 31 + 1 + 1024 * (max_cascade + 1 - budget)

-- a column that may stand at a site with this budget
pub record IsInReach (c : Column) (budget : ℕ) : Type 0 where
  pub few : length c.values ≤ most_site_rows budget
  pub within : budget ≤ max_cascade

-- a part of such a column
pub record IsPartInReach (c : Column) (budget : ℕ) : Type 0 where
  pub few : length c.values ≤ most_part_rows budget
  pub within : budget ≤ max_cascade
