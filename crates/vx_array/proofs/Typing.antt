-- The types of a struct's fields, one more at a time.
use Rattle.std.proofs.Common.{◌≡◌, ◌<◌, ◌+◌, ◌++◌, ℕ, zero, suc, List, [], ◌∷◌, length, map, take, get_or, refl, ap, add-one, arith}
use Rattle.std.specs.List.{zip}
use Rattle.vx_base.specs.PlainType.{of_fields, more}
use Rattle.vx_model.specs.Tree.{Tree, of_list}
use Rattle.vx_model.specs.TreeType.{tree_type, field_types}

-- a list of names beside types
pub field_types-zip : (names : List (List ℕ)) (ts : List Tree) → field_types names (of_list ts) ≡ of_fields (zip names (map tree_type ts))
field_types-zip [] ts = refl
field_types-zip (name ∷ names) [] = refl
field_types-zip (name ∷ names) (t ∷ ts) = ap (more name (tree_type t)) (field_types-zip names ts)

zip_next : (names : List (List ℕ)) (ts : List Tree) (i : ℕ) (name : List ℕ) (t : Tree) → length names ≡ length ts → i < length names → name ≡ get_or names i name → t ≡ get_or ts i t
    → zip (take (suc i) names) (map tree_type (take (suc i) ts)) ≡ zip (take i names) (map tree_type (take i ts)) ++ (name, tree_type t) ∷ []
zip_next [] ts i name t l h a b = absurd (omega arith)
zip_next (n ∷ names) [] i name t l h a b = absurd (omega arith)
zip_next (n ∷ names) (s ∷ ts) zero name t l h a b = rw (a, b) refl
zip_next (n ∷ names) (s ∷ ts) (suc i) name t l h a b = ap (λ r. (n, tree_type s) ∷ r) (zip_next names ts i name t (omega arith) (omega arith) a b)

pub zip_more : (names : List (List ℕ)) (ts : List Tree) (i : ℕ) (name : List ℕ) (t : Tree) → length names ≡ length ts → i < length names → name ≡ get_or names i name → t ≡ get_or ts i t
    → zip (take (i + 1) names) (map tree_type (take (i + 1) ts)) ≡ zip (take i names) (map tree_type (take i ts)) ++ (name, tree_type t) ∷ []
zip_more names ts i name t l h a b = rw (add-one i) (zip_next names ts i name t l h a b)
