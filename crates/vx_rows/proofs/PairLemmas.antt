-- Rows of two lists side by side: one row further, and their number.
use Rattle.std.proofs.Common.{◌≡◌, ◌<◌, ◌≤◌, ◌∙◌, ℕ, zero, suc, ◌+◌, List, [], ◌∷◌, ◌++◌, map, take, length, get_or, set, refl, sym, ap, arith, add-one}
use Rattle.std.proofs.lemmas.List.{take_all, take_more_set}
use Rattle.vx_base.specs.PlainValue.{PlainValue}
use Rattle.vx_model.specs.Rows.{row_at}
use Rattle.vx_rows.specs.Pairs.{each_pair}

module _ {A B C : Type 0} (f : A → B → C) where
  next : (xs : List A) (ys : List B) (i : ℕ) (a : A) (b : B) → i < length xs → i < length ys → each_pair f (take (suc i) xs) (take (suc i) ys) ≡ each_pair f (take i xs) (take i ys) ++ f (get_or xs i a) (get_or ys i b) ∷ []
  next [] ys i a b h k = absurd (omega arith)
  next (x ∷ xs) [] i a b h k = absurd (omega arith)
  next (x ∷ xs) (y ∷ ys) zero a b h k = refl
  next (x ∷ xs) (y ∷ ys) (suc i) a b h k = ap (λ zs. f x y ∷ zs) (next xs ys i a b (omega arith) (omega arith))

  -- one row further, by the items that are found there
  pub each_pair-at : (xs : List A) (ys : List B) (i : ℕ) (a : A) (b : B) → i < length xs → i < length ys → each_pair f (take (i + 1) xs) (take (i + 1) ys) ≡ each_pair f (take i xs) (take i ys) ++ f (get_or xs i a) (get_or ys i b) ∷ []
  each_pair-at xs ys i a b h k = rw (add-one i) (next xs ys i a b h k)

  pub each_pair-next : (xs : List A) (ys : List B) (i : ℕ) (x : A) (y : B) → i < length xs → i < length ys → x ≡ get_or xs i x → y ≡ get_or ys i y
      → each_pair f (take (i + 1) xs) (take (i + 1) ys) ≡ each_pair f (take i xs) (take i ys) ++ f x y ∷ []
  each_pair-next xs ys i x y h k e d = each_pair-at xs ys i x y h k ∙ (λ j. each_pair f (take i xs) (take i ys) ++ f (sym e j) (sym d j) ∷ [])

  pub length-each_pair : (xs : List A) (ys : List B) → length xs ≡ length ys → length (each_pair f xs ys) ≡ length xs
  length-each_pair [] ys e = refl
  length-each_pair (a ∷ xs) [] e = absurd (omega arith)
  length-each_pair (a ∷ xs) (b ∷ ys) e = ap suc (length-each_pair xs ys (omega arith))

-- ---- rows of values

next-rows : {C : Type 0} (f : PlainValue → PlainValue → C) (xs ys : List PlainValue) (i : ℕ) → i < length xs → i < length ys
    → each_pair f (take (suc i) xs) (take (suc i) ys) ≡ each_pair f (take i xs) (take i ys) ++ f (row_at xs i) (row_at ys i) ∷ []
next-rows f [] ys i h k = absurd (omega arith)
next-rows f (a ∷ xs) [] i h k = absurd (omega arith)
next-rows f (a ∷ xs) (b ∷ ys) zero h k = refl
next-rows f (a ∷ xs) (b ∷ ys) (suc i) h k = ap (λ zs. f a b ∷ zs) (next-rows f xs ys i (omega arith) (omega arith))

-- one row further, with its values
pub pairs-more : (f : PlainValue → PlainValue → PlainValue) (xs ys done : List PlainValue) (i : ℕ) (v w out : PlainValue) → i < length xs → length xs ≡ length ys → v ≡ row_at xs i → w ≡ row_at ys i
    → out ≡ f v w → done ≡ each_pair f (take i xs) (take i ys) → done ++ out ∷ [] ≡ each_pair f (take (i + 1) xs) (take (i + 1) ys)
pairs-more f xs ys done i v w out h e a b o d = (λ j. d j ++ (o ∙ (λ k. f (a k) (b k))) j ∷ []) ∙ sym (rw (add-one i) (next-rows f xs ys i h (omega arith)))

pub pairs-all : (f : PlainValue → PlainValue → PlainValue) (xs ys : List PlainValue) (i : ℕ) → length xs ≤ i → length xs ≡ length ys → each_pair f (take i xs) (take i ys) ≡ each_pair f xs ys
pairs-all f xs ys i h e = λ j. each_pair f (take_all i xs h j) (take_all i ys (omega arith) j)

-- the rows up to one place, in a list where that place is set
pub pairs-set : (f : PlainValue → PlainValue → PlainValue) (xs ys done : List PlainValue) (i : ℕ) (v w out : PlainValue) → i < length xs → length xs ≡ length ys → length done ≡ length xs → v ≡ row_at xs i → w ≡ row_at ys i
    → out ≡ f v w → take i done ≡ each_pair f (take i xs) (take i ys) → take (i + 1) (set done i out) ≡ each_pair f (take (i + 1) xs) (take (i + 1) ys)
pairs-set f xs ys done i v w out h e l a b o d = take_more_set done i out (omega arith) ∙ pairs-more f xs ys (take i done) i v w out h e a b o d

pub pairs-done : (f : PlainValue → PlainValue → PlainValue) (xs ys done : List PlainValue) (i : ℕ) → length xs ≤ i → length xs ≡ length ys → length done ≡ length xs → take i done ≡ each_pair f (take i xs) (take i ys) → done ≡ each_pair f xs ys
pairs-done f xs ys done i h e l d = sym (take_all i done (omega arith)) ∙ d ∙ pairs-all f xs ys i h e

next-mapped : {C : Type 0} (f : PlainValue → C) (xs : List PlainValue) (i : ℕ) → i < length xs → map f (take (suc i) xs) ≡ map f (take i xs) ++ f (row_at xs i) ∷ []
next-mapped f [] i h = absurd (omega arith)
next-mapped f (a ∷ xs) zero h = refl
next-mapped f (a ∷ xs) (suc i) h = ap (λ zs. f a ∷ zs) (next-mapped f xs i (omega arith))

pub maps-more : {C : Type 0} (f : PlainValue → C) (xs : List PlainValue) (done : List C) (i : ℕ) (v : PlainValue) (out : C) → i < length xs → v ≡ row_at xs i → out ≡ f v → done ≡ map f (take i xs) → done ++ out ∷ [] ≡ map f (take (i + 1) xs)
maps-more f xs done i v out h a o d = (λ j. d j ++ (o ∙ ap f a) j ∷ []) ∙ sym (rw (add-one i) (next-mapped f xs i h))

pub maps-all : {C : Type 0} (f : PlainValue → C) (xs : List PlainValue) (i : ℕ) → length xs ≤ i → map f (take i xs) ≡ map f xs
maps-all f xs i h = ap (map f) (take_all i xs h)

pub maps-set : {C : Type 0} (f : PlainValue → C) (xs : List PlainValue) (done : List C) (i : ℕ) (v : PlainValue) (out : C) → i < length xs → length done ≡ length xs → v ≡ row_at xs i → out ≡ f v → take i done ≡ map f (take i xs) → take (i + 1) (set done i out) ≡ map f (take (i + 1) xs)
maps-set f xs done i v out h l a o d = take_more_set done i out (omega arith) ∙ maps-more f xs (take i done) i v out h a o d

pub maps-done : {C : Type 0} (f : PlainValue → C) (xs : List PlainValue) (done : List C) (i : ℕ) → length xs ≤ i → length done ≡ length xs → take i done ≡ map f (take i xs) → done ≡ map f xs
maps-done f xs done i h l d = sym (take_all i done (omega arith)) ∙ d ∙ maps-all f xs i h
