-- Lists of exactly three.
use Rattle.std.specs.Prelude.{List, [], ◌∷◌, Option, None, Some}

-- the three; None unless there are exactly three
abbrev pub triple_of : {A : Type 0} → List A → Option (A × A × A)
triple_of [] = None
triple_of (x ∷ []) = None
triple_of (x ∷ y ∷ []) = None
triple_of (x ∷ y ∷ z ∷ []) = Some (x, y, z)
triple_of (x ∷ y ∷ z ∷ w ∷ ws) = None
