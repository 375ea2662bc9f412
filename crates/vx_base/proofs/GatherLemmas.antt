-- Gathering commutes with a function on rows, and which ranges are in bounds.
use Rattle.std.proofs.Common.{◌≡◌, ℕ, List, [], ◌∷◌, ◌++◌, map, refl, ◌∙◌}
use Rattle.std.proofs.lemmas.List.{map-append, take-map, drop-map}
use Rattle.vx_base.specs.Masks.{rows_between}
use Rattle.vx_base.specs.Gathered.{gathered}

map-rows_between : {A B : Type 0} (f : A → B) (rows : List A) (start end : ℕ) → map f (rows_between rows start end) ≡ rows_between (map f rows) start end
map-rows_between f rows start end = simp (take-map, drop-map)

pub map-gathered : {A B : Type 0} (f : A → B) (ranges : List (ℕ × ℕ)) (rows : List A) → map f (gathered ranges rows) ≡ gathered ranges (map f rows)
map-gathered f [] rows = refl
map-gathered f (r ∷ rs) rows = map-append f (rows_between rows r.0 r.1) (gathered rs rows) ∙ (λ i. map-rows_between f rows r.0 r.1 i ++ map-gathered f rs rows i)
