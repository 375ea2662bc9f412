-- A function of each row, over rows with their validity: null stays null, and a valid row goes by its item.
use Rattle.std.proofs.Common.{◌≡◌, ℕ, zero, suc, Bool, true, false, cond, List, [], ◌∷◌, map, length, Some, None, refl, ap, arith}
use Rattle.std.specs.Prelude.{◌&&◌, replicate, zip}
use Rattle.vx_base.specs.PlainValue.{PlainValue, null}
use Rattle.vx_model.specs.Tree.{Validity}
use Rattle.vx_model.specs.Rows.{valid_rows, masked_rows}
use Rattle.vx_rows.specs.Pairs.{each_pair, both_valid}

-- ---- one column

module _ {A B : Type 0} (g : PlainValue → PlainValue) (value : A → PlainValue) (h : A → B) (made : B → PlainValue) (of_null : g null ≡ null) (of_value : (x : A) → g (value x) ≡ made (h x)) where
  map-items : (xs : List A) → map g (map value xs) ≡ map made (map h xs)
  map-items [] = refl
  map-items (x ∷ xs) = λ i. of_value x i ∷ map-items xs i

  map-masked : (bits : List Bool) (xs : List A) → map g (masked_rows bits (map value xs)) ≡ masked_rows bits (map made (map h xs))
  map-masked [] xs = refl
  map-masked (b ∷ bits) [] = refl
  map-masked (true ∷ bits) (x ∷ xs) = λ i. of_value x i ∷ map-masked bits xs i
  map-masked (false ∷ bits) (x ∷ xs) = λ i. of_null i ∷ map-masked bits xs i

  pub map-valid : (valid : Validity) (xs : List A) → map g (valid_rows valid (map value xs)) ≡ valid_rows valid (map made (map h xs))
  map-valid None xs = map-items xs
  map-valid (Some bits) xs = map-masked bits xs

-- ---- a column and one value in each row

pub pair-replicate : {A B C : Type 0} (f : A → B → C) (xs : List A) (y : B) (n : ℕ) → length xs ≡ n → each_pair f xs (replicate n y) ≡ map (λ x. f x y) xs
pair-replicate f [] y zero e = refl
pair-replicate f [] y (suc n) e = absurd (omega arith)
pair-replicate f (x ∷ xs) y zero e = absurd (omega arith)
pair-replicate f (x ∷ xs) y (suc n) e = ap (λ zs. f x y ∷ zs) (pair-replicate f xs y n (omega arith))

pub triple-replicate : {A B C D : Type 0} (f : A → B → C → D) (xs : List A) (y : B) (z : C) (n : ℕ) → length xs ≡ n
    → map (λ p. f p.0 p.1.0 p.1.1) (zip xs (zip (replicate n y) (replicate n z))) ≡ map (λ x. f x y z) xs
triple-replicate f [] y z zero e = refl
triple-replicate f [] y z (suc n) e = absurd (omega arith)
triple-replicate f (x ∷ xs) y z zero e = absurd (omega arith)
triple-replicate f (x ∷ xs) y z (suc n) e = ap (λ ws. f x y z ∷ ws) (triple-replicate f xs y z n (omega arith))

-- ---- two columns

module _ {A B C : Type 0} (f : PlainValue → PlainValue → PlainValue) (left : A → PlainValue) (right : B → PlainValue) (h : A → B → C) (made : C → PlainValue)
    (left_null : (v : PlainValue) → f null v ≡ null) (right_null : (x : A) → f (left x) null ≡ null) (of_values : (x : A) (y : B) → f (left x) (right y) ≡ made (h x y)) where
  items-both : (xs : List A) (ys : List B) → each_pair f (map left xs) (map right ys) ≡ map made (each_pair h xs ys)
  items-both [] ys = refl
  items-both (x ∷ xs) [] = refl
  items-both (x ∷ xs) (y ∷ ys) = λ i. of_values x y i ∷ items-both xs ys i

  right-masked : (bits : List Bool) (xs : List A) (ys : List B) → each_pair f (map left xs) (masked_rows bits (map right ys)) ≡ masked_rows bits (map made (each_pair h xs ys))
  right-masked [] [] ys = refl
  right-masked [] (x ∷ xs) ys = refl
  right-masked (b ∷ bits) [] [] = refl
  right-masked (b ∷ bits) [] (y ∷ ys) = refl
  right-masked (b ∷ bits) (x ∷ xs) [] = refl
  right-masked (true ∷ bits) (x ∷ xs) (y ∷ ys) = λ i. of_values x y i ∷ right-masked bits xs ys i
  right-masked (false ∷ bits) (x ∷ xs) (y ∷ ys) = λ i. right_null x i ∷ right-masked bits xs ys i

  left-masked : (bits : List Bool) (xs : List A) (ys : List B) → each_pair f (masked_rows bits (map left xs)) (map right ys) ≡ masked_rows bits (map made (each_pair h xs ys))
  left-masked [] xs ys = refl
  left-masked (b ∷ bits) [] ys = refl
  left-masked (b ∷ bits) (x ∷ xs) [] = refl
  left-masked (true ∷ bits) (x ∷ xs) (y ∷ ys) = λ i. of_values x y i ∷ left-masked bits xs ys i
  left-masked (false ∷ bits) (x ∷ xs) (y ∷ ys) = λ i. left_null (right y) i ∷ left-masked bits xs ys i

  both-masked : (bits others : List Bool) (xs : List A) (ys : List B)
      → each_pair f (masked_rows bits (map left xs)) (masked_rows others (map right ys)) ≡ masked_rows (each_pair (λ a b. a && b) bits others) (map made (each_pair h xs ys))
  both-masked [] others xs ys = refl
  both-masked (b ∷ bits) [] [] ys = refl
  both-masked (b ∷ bits) [] (x ∷ xs) ys = refl
  both-masked (b ∷ bits) (c ∷ others) [] ys = refl
  both-masked (b ∷ bits) (c ∷ others) (x ∷ xs) [] = refl
  both-masked (true ∷ bits) (true ∷ others) (x ∷ xs) (y ∷ ys) = λ i. of_values x y i ∷ both-masked bits others xs ys i
  both-masked (true ∷ bits) (false ∷ others) (x ∷ xs) (y ∷ ys) = λ i. right_null x i ∷ both-masked bits others xs ys i
  both-masked (false ∷ bits) (c ∷ others) (x ∷ xs) (y ∷ ys) = λ i. left_null (cond c (right y) null) i ∷ both-masked bits others xs ys i

  pub pair-valid : (valid others : Validity) (xs : List A) (ys : List B)
      → each_pair f (valid_rows valid (map left xs)) (valid_rows others (map right ys)) ≡ valid_rows (both_valid valid others) (map made (each_pair h xs ys))
  pair-valid None None xs ys = items-both xs ys
  pair-valid None (Some others) xs ys = right-masked others xs ys
  pair-valid (Some bits) None xs ys = left-masked bits xs ys
  pair-valid (Some bits) (Some others) xs ys = both-masked bits others xs ys
