-- Lists of exactly two.
use Rattle.std.specs.Prelude.{List, [], ◌∷◌, Option, None, Some}

-- the two; None unless there are exactly two
abbrev pub pair_of : {A : Type 0} → List A → Option (A × A)
pair_of [] = None
pair_of (x ∷ []) = None
pair_of (x ∷ y ∷ []) = Some (x, y)
pair_of (x ∷ y ∷ z ∷ zs) = None
