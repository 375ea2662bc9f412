-- Names and fields side by side.
use Rattle.std.proofs.Common.{◌≡◌, ℕ, List, [], ◌∷◌, ◌++◌, length, map, refl, ap, arith}
use Rattle.std.specs.List.{zip}
use Rattle.vx_model.specs.Tree.{Tree, of_list}
use Rattle.vx_spelling.specs.NestedParts.{names_of, trees_of}

pub names_of-zip : (names : List (List ℕ)) (ts : List Tree) → length names ≡ length ts → names_of (zip names ts) ≡ names
names_of-zip [] [] h = refl
names_of-zip [] (t ∷ ts) h = absurd (omega arith)
names_of-zip (n ∷ names) [] h = absurd (omega arith)
names_of-zip (n ∷ names) (t ∷ ts) h = ap (λ (r : List (List ℕ)). n ∷ r) (names_of-zip names ts (omega arith))

seconds : (names : List (List ℕ)) (ts : List Tree) → length names ≡ length ts → map (λ (f : List ℕ × Tree). f.1) (zip names ts) ≡ ts
seconds [] [] h = refl
seconds [] (t ∷ ts) h = absurd (omega arith)
seconds (n ∷ names) [] h = absurd (omega arith)
seconds (n ∷ names) (t ∷ ts) h = ap (λ (r : List Tree). t ∷ r) (seconds names ts (omega arith))

pub trees_of-zip : (names : List (List ℕ)) (ts : List Tree) → length names ≡ length ts → trees_of (zip names ts) ≡ of_list ts
trees_of-zip names ts h = ap of_list (seconds names ts h)

pub zip-push : (names : List (List ℕ)) (ts : List Tree) (n : List ℕ) (t : Tree) → length names ≡ length ts → zip (names ++ n ∷ []) (ts ++ t ∷ []) ≡ zip names ts ++ (n, t) ∷ []
zip-push [] [] n t h = refl
zip-push [] (s ∷ ts) n t h = absurd (omega arith)
zip-push (m ∷ names) [] n t h = absurd (omega arith)
zip-push (m ∷ names) (s ∷ ts) n t h = ap (λ (r : List (List ℕ × Tree)). (m, s) ∷ r) (zip-push names ts n t (omega arith))

pub ruleset zips = (names_of-zip, trees_of-zip)
