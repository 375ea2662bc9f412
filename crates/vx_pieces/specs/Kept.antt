-- The rows that a mask keeps.
use Rattle.std.specs.Prelude.{Bool, if◌then◌else◌, List, [], ◌∷◌}

-- the items whose bit is true
abbrev pub kept_items : {A : Type 0} → List Bool → List A → List A
kept_items [] xs = []
kept_items (bit ∷ bits) [] = []
kept_items (bit ∷ bits) (x ∷ xs) = if bit then x ∷ kept_items bits xs else kept_items bits xs
