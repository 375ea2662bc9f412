-- Which scheme is chosen by the scores of all, and the best so far of one pass over them.
use Rattle.std.specs.Prelude.{◌≡◌, Bool, true, false, not, ◌&&◌, if◌then◌else◌, List, [], ◌∷◌, Option, Some, None, option_map}
use Rattle.std.specs.List.{find, list_all}
use Rattle.vx_base.specs.declared.fraction.Fraction.{Fraction}
use Rattle.vx_base.specs.Fractions.{is_less, is_above_one}
use Rattle.vx_compressor.specs.declared.choice.Score.{Score}
use Rattle.vx_compressor.specs.declared.choice.Score.TheVariants.{Always, Finite}

-- ---- the choice

-- a scheme's score is always-use
abbrev pub is_always_score : Option Score → Bool
is_always_score (Some Always) = true
is_always_score (Some (Finite f)) = false
is_always_score None = false

-- no fraction of the score is greater
abbrev pub is_at_most : Fraction → Option Score → Bool
is_at_most f (Some (Finite g)) = not (is_less f g)
is_at_most f (Some Always) = true
is_at_most f None = true

-- a fraction above one to which none of the list is greater
abbrev pub is_greatest : {A : Type 0} → List (A × Option Score) → Option Score → Bool
is_greatest xs (Some (Finite f)) = is_above_one f && list_all (λ x. is_at_most f x.1) xs
is_greatest xs (Some Always) = false
is_greatest xs None = false

-- the first, or the other where there is none
abbrev pub or_else : {A : Type 0} → Option A → Option A → Option A
or_else (Some x) other = Some x
or_else None other = other

-- the first always-use, else the first that has the greatest fraction above one
abbrev pub choice_of : {A : Type 0} → List (A × Option Score) → Option A
choice_of xs = option_map (λ x. x.0) (or_else (find (λ x. is_always_score x.1) xs) (find (λ x. is_greatest xs x.1) xs))

-- ---- the best so far

-- the best so far, unless this one is better
abbrev pub better : {A : Type 0} → Option (A × Score) → A → Option Score → Option (A × Score)
better best x None = best
better (Some (y, Always)) x (Some s) = Some (y, Always)
better (Some (y, Finite g)) x (Some Always) = Some (x, Always)
better (Some (y, Finite g)) x (Some (Finite f)) = if is_above_one f && is_less g f then Some (x, Finite f) else Some (y, Finite g)
better None x (Some Always) = Some (x, Always)
better None x (Some (Finite f)) = if is_above_one f then Some (x, Finite f) else None

-- the best of a list, where this was the best before
abbrev pub best_of : {A : Type 0} → Option (A × Score) → List (A × Option Score) → Option (A × Score)
best_of best [] = best
best_of best (x ∷ xs) = best_of (better best x.0 x.1) xs

-- the best is an always-use
abbrev pub is_always : {A : Type 0} → Option (A × Score) → Bool
is_always (Some (x, Always)) = true
is_always (Some (x, Finite f)) = false
is_always None = false

-- the best of all is the choice
abbrev pub BestIsChoice : Type 0 → Type 0
BestIsChoice A = (xs : List (A × Option Score)) → option_map (λ p. p.0) (best_of None xs) ≡ choice_of xs
