-- Values stored as trees of numbers and read back: of this the logic's code of a recursive data type is made.
use Rattle.std.specs.Prelude.{◌≡◌, ℕ, ℤ, pos, negsuc, Bool, true, false, List, [], ◌∷◌, Option, None, Some, cond, ◌==◌, refl}
use Rattle.std.proofs.Common.{ap, sym, subst, ◌∙◌, ◌&&◌, eq-eqb}
use Rattle.std.proofs.lemmas.Bool.{eqb-true}
use Rattle.std.specs.Coded.{Coded, code_by}
use base.Stored.{Gv, gnil, gnum, gcons, num}
use denote.Struct.Codes.{itself}

-- a way to store the values of A as trees of numbers, and its inverse
pub record Storable (A : Type 0) : Type 0 where
  pub to : A → Gv
  pub from : Gv → A
  pub back : (x : A) → from (to x) ≡ x

-- the code by which the logic decides equality, from a way to store
abbrev pub code_of : {A : Type 0} → Storable A → Coded A
code_of s = code_by Gv itself s.to s.from s.back

-- the left part of a tree of numbers
abbrev pub first : Gv → Gv
first gnil = gnil
first (gnum n) = gnil
first (gcons a b) = a

-- the right part of a tree of numbers
abbrev pub rest : Gv → Gv
rest gnil = gnil
rest (gnum n) = gnil
rest (gcons a b) = b

-- a natural number is stored as itself
abbrev pub stored_ℕ : Storable ℕ
stored_ℕ = record { to = gnum; from = num; back = λ _. refl }

abbrev pub bool_to : Bool → Gv
bool_to true = gnum 1
bool_to false = gnum 0

abbrev pub bool_from : Gv → Bool
bool_from g = num g == 1

pub bool_back : (b : Bool) → bool_from (bool_to b) ≡ b
bool_back true = refl
bool_back false = refl

-- a truth value is stored as 1 or 0
abbrev pub stored_bool : Storable Bool
stored_bool = record { to = bool_to; from = bool_from; back = bool_back }

abbrev pub int_to : ℤ → Gv
int_to (pos n) = gcons (gnum 0) (gnum n)
int_to (negsuc n) = gcons (gnum 1) (gnum n)

abbrev pub int_from : Gv → ℤ
int_from g = cond (num (first g) == 0) (pos (num (rest g))) (negsuc (num (rest g)))

pub int_back : (z : ℤ) → int_from (int_to z) ≡ z
int_back (pos n) = refl
int_back (negsuc n) = refl

-- a whole number is stored as its sign and a natural number
abbrev pub stored_ℤ : Storable ℤ
stored_ℤ = record { to = int_to; from = int_from; back = int_back }

module _ {A B : Type 0} (a : Storable A) (b : Storable B) where
  -- a pair is stored as its parts
  abbrev pub stored× : Storable (A × B)
  stored× = record { to = λ p. gcons (a.to p.0) (b.to p.1); from = λ g. (a.from (first g), b.from (rest g)); back = λ p i. (a.back p.0 i, b.back p.1 i) }

module _ {A : Type 0} (a : Storable A) where
  abbrev pub list_to : List A → Gv
  list_to [] = gnil
  list_to (x ∷ xs) = gcons (a.to x) (list_to xs)

  abbrev pub list_from : Gv → List A
  list_from gnil = []
  list_from (gnum n) = []
  list_from (gcons g h) = a.from g ∷ list_from h

  pub list_back : (xs : List A) → list_from (list_to xs) ≡ xs
  list_back [] = refl
  list_back (x ∷ xs) = λ i. a.back x i ∷ list_back xs i

  -- a list is stored as its first item and its rest
  abbrev pub stored_list : Storable (List A)
  stored_list = record { to = list_to; from = list_from; back = list_back }

  abbrev pub option_to : Option A → Gv
  option_to None = gnil
  option_to (Some x) = gcons gnil (a.to x)

  abbrev pub option_from : Gv → Option A
  option_from gnil = None
  option_from (gnum n) = None
  option_from (gcons g h) = Some (a.from h)

  pub option_back : (o : Option A) → option_from (option_to o) ≡ o
  option_back None = refl
  option_back (Some x) = ap Some (a.back x)

  -- an option is stored as an empty tree, or as one with the item
  abbrev pub stored_option : Storable (Option A)
  stored_option = record { to = option_to; from = option_from; back = option_back }

abbrev pub stored_bytes : Storable (List ℕ)
stored_bytes = stored_list stored_ℕ

-- an enum without fields is stored as its number
abbrev pub stored_by : {A : Type 0} (number : A → ℕ) (back : ℕ → A) → ((x : A) → back (number x) ≡ x) → Storable A
stored_by number back law = record { to = λ x. gnum (number x); from = λ g. back (num g); back = law }

-- ---- equality of values, by the trees that store them
abbrev pub same_tree : Gv → Gv → Bool
same_tree gnil gnil = true
same_tree (gnum m) (gnum n) = m == n
same_tree (gcons a b) (gcons c d) = same_tree a c && same_tree b d
same_tree _ _ = false

pub same_tree_refl : (g : Gv) → same_tree g g ≡ true
same_tree_refl gnil = refl
same_tree_refl (gnum n) = eq-eqb n n refl
same_tree_refl (gcons a b) = rw (same_tree_refl a, same_tree_refl b) refl

pub same_tree_path : (g h : Gv) → same_tree g h ≡ true → g ≡ h
same_tree_path gnil gnil e = refl
same_tree_path (gnum m) (gnum n) e = ap gnum (eqb-true m n e)
same_tree_path (gcons a b) (gcons c d) e = let p = and_both (same_tree a c) (same_tree b d) e in λ i. gcons (same_tree_path a c p.0 i) (same_tree_path b d p.1 i)
  where
    and_both : (x y : Bool) → (x && y) ≡ true → (x ≡ true) × (y ≡ true)
    and_both true true e = (refl, refl)
    and_both true false e = absurd cc
    and_both false y e = absurd cc
same_tree_path gnil (gnum n) e = absurd cc
same_tree_path gnil (gcons a b) e = absurd cc
same_tree_path (gnum n) gnil e = absurd cc
same_tree_path (gnum n) (gcons a b) e = absurd cc
same_tree_path (gcons a b) gnil e = absurd cc
same_tree_path (gcons a b) (gnum n) e = absurd cc

module _ {A : Type 0} (s : Storable A) where
  -- whether two values are stored as the same tree
  abbrev pub same : A → A → Bool
  same x y = same_tree (s.to x) (s.to y)

  pub same_refl : (x y : A) → x ≡ y → same x y ≡ true
  same_refl x y e = subst (λ z. same_tree (s.to x) (s.to z) ≡ true) e (same_tree_refl (s.to x))

  pub same_path : (x y : A) → same x y ≡ true → x ≡ y
  same_path x y e = sym (s.back x) ∙ ap s.from (same_tree_path (s.to x) (s.to y) e) ∙ s.back y

  pub same_symm : (x y : A) → same x y ≡ same y x
  same_symm x y = both (same x y) (same y x) (λ e. same_refl y x (sym (same_path x y e))) (λ e. same_refl x y (sym (same_path y x e)))
    where
      both : (b c : Bool) → (b ≡ true → c ≡ true) → (c ≡ true → b ≡ true) → b ≡ c
      both true c f g = sym (f refl)
      both false true f g = g refl
      both false false f g = refl

  pub same_trans : (x y z : A) → same x y ≡ true → same y z ≡ true → same x z ≡ true
  same_trans x y z e f = same_refl x z (same_path x y e ∙ same_path y z f)

  pub same_congr : (x y z : A) → same x y ≡ true → same x z ≡ same y z
  same_congr x y z e = ap (λ w. same w z) (same_path x y e)

  pub same_from : (x y : A) (b : Bool) → (b ≡ true → x ≡ y) → (x ≡ y → b ≡ true) → b ≡ same x y
  same_from x y true f g = sym (same_refl x y (f refl))
  same_from x y false f g = no (same x y) (λ e. g (same_path x y e))
    where
      no : (c : Bool) → (c ≡ true → false ≡ true) → false ≡ c
      no true h = h refl
      no false h = refl

pub ruleset sameness = (same_from)
