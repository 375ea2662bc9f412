-- A site: where in the cascade a column stands.
use Rattle.std.specs.Prelude.{ℕ, ◌-◌, Bool, false, List, [], ◌∷◌, ◌++◌}

-- how many schemes may nest below the first
abbrev pub max_cascade : ℕ
max_cascade = 4

-- how many schemes may still nest, whether the column is a sample, and the path from the root: the name of each scheme above,
-- and the number of the child taken
pub record Site : Type 0 where
  pub budget : ℕ
  pub sampled : Bool
  pub history : List (List ℕ × ℕ)

-- the site at which a column begins
abbrev pub fresh : Site
fresh = record { budget = max_cascade; sampled = false; history = [] }

-- the site of a scheme's child: the budget is one less, never below 0
abbrev pub down : Site → List ℕ → ℕ → Site
down s name child = record { budget = s.budget - 1; sampled = s.sampled; history = s.history ++ (name, child) ∷ [] }
