-- The least and the greatest, one value further, and of integers.
use Rattle.std.proofs.Common.{◌≡◌, ◌<◌, ◌∙◌, ℕ, zero, suc, ◌+◌, ℤ, Bool, true, false, cond, List, [], ◌∷◌, ◌++◌, map, take, length, get_or, Some, None, refl, sym, ap, arith, fold, add-one}
use Rattle.std.specs.Prelude.{option_map, not, replicate, Result, Ok, Err}
use Rattle.std.proofs.lemmas.List.{append-nil}
use Rattle.std.specs.List.{list_all, reduce}
use Rattle.std.proofs.lemmas.Bool.{and_from, and_parts}
use Rattle.std.specs.Ordering.{int_cmp, is_lt, ord_max, ord_min}
use Rattle.std.proofs.lemmas.List.Sums.{fold-append}
use Rattle.vx_base.specs.declared.error.VortexError.{VortexError}
use Rattle.vx_base.specs.Answers.{Answers}
use Rattle.vx_base.specs.PlainValue.{PlainValue, int, is_null}
use Rattle.vx_model.specs.Rows.{masked_rows, row_at}
use Rattle.vx_rules.specs.Aggregates.{greatest, least, valid_values}
use Rattle.vx_rules.specs.ValueOrder.{value_cmp}
use Rattle.vx_rows.specs.Extremes.{next_valid, valid_items, with_next}

-- one value further
pub reduce-next : {A : Type 0} (f : A → A → A) (xs : List A) (x : A) → reduce f (xs ++ x ∷ []) ≡ Some (with_next f (reduce f xs) x)
reduce-next f [] x = refl
reduce-next f (y ∷ ys) x = ap Some (fold-append f y ys (x ∷ []))

next-valid : {A : Type 0} (bits : List Bool) (xs : List A) (i : ℕ) (x : A) → i < length bits → i < length xs → x ≡ get_or xs i x
    → valid_items (take (suc i) bits) (take (suc i) xs) ≡ valid_items (take i bits) (take i xs) ++ cond (get_or bits i false) (x ∷ []) []
next-valid [] xs i x h k e = absurd (omega arith)
next-valid (b ∷ bits) [] i x h k e = absurd (omega arith)
next-valid (b ∷ bits) (y ∷ xs) zero x h k e = λ j. cond b (sym e j ∷ []) []
next-valid (true ∷ bits) (y ∷ xs) (suc i) x h k e = ap (λ ys. y ∷ ys) (next-valid bits xs i x (omega arith) (omega arith) e)
next-valid (false ∷ bits) (y ∷ xs) (suc i) x h k e = next-valid bits xs i x (omega arith) (omega arith) e

pub valid_items-next : {A : Type 0} (bits : List Bool) (xs : List A) (i : ℕ) (x : A) → i < length bits → i < length xs → x ≡ get_or xs i x
    → valid_items (take (i + 1) bits) (take (i + 1) xs) ≡ valid_items (take i bits) (take i xs) ++ cond (get_or bits i false) (x ∷ []) []
valid_items-next bits xs i x h k e = rw (add-one i) (next-valid bits xs i x h k e)

-- ---- of integers

cond-int : (c : Bool) (a b : ℤ) → cond c (int a) (int b) ≡ int (cond c a b)
cond-int true a b = refl
cond-int false a b = refl

module _ (f : PlainValue → PlainValue → PlainValue) (g : ℤ → ℤ → ℤ) (same : (a b : ℤ) → f (int a) (int b) ≡ int (g a b)) where
  fold-int : (a : ℤ) (zs : List ℤ) → fold f (int a) (map int zs) ≡ int (fold g a zs)
  fold-int a [] = refl
  fold-int a (z ∷ zs) = ap (λ v. fold f v (map int zs)) (same a z) ∙ fold-int (g a z) zs

  reduce-int : (zs : List ℤ) → reduce f (map int zs) ≡ option_map int (reduce g zs)
  reduce-int [] = refl
  reduce-int (z ∷ zs) = ap Some (fold-int z zs)

min-int : (a b : ℤ) → ord_min value_cmp (int a) (int b) ≡ int (ord_min int_cmp a b)
min-int a b = cond-int (is_lt (int_cmp b a)) b a

max-int : (a b : ℤ) → ord_max value_cmp (int a) (int b) ≡ int (ord_max int_cmp a b)
max-int a b = cond-int (is_lt (int_cmp b a)) a b

pub least-int : (zs : List ℤ) → least (map int zs) ≡ option_map int (reduce (ord_min int_cmp) zs)
least-int zs = reduce-int (ord_min value_cmp) (ord_min int_cmp) min-int zs

pub greatest-int : (zs : List ℤ) → greatest (map int zs) ≡ option_map int (reduce (ord_max int_cmp) zs)
greatest-int zs = reduce-int (ord_max value_cmp) (ord_max int_cmp) max-int zs

pub valid-some : (zs : List ℤ) → valid_values (map int zs) ≡ map int zs
valid-some [] = refl
valid-some (z ∷ zs) = ap (λ vs. int z ∷ vs) (valid-some zs)

pub valid-masked : (bits : List Bool) (zs : List ℤ) → valid_values (masked_rows bits (map int zs)) ≡ map int (valid_items bits zs)
valid-masked [] zs = refl
valid-masked (b ∷ bits) [] = refl
valid-masked (true ∷ bits) (z ∷ zs) = ap (λ vs. int z ∷ vs) (valid-masked bits zs)
valid-masked (false ∷ bits) (z ∷ zs) = valid-masked bits zs

-- rows that are null where a bit is false have the valid values of those whose bit is true
pub masked-items : (bits : List Bool) (vs : List PlainValue) → valid_values (masked_rows bits vs) ≡ valid_values (valid_items bits vs)
masked-items [] vs = refl
masked-items (b ∷ bits) [] = refl
masked-items (true ∷ bits) (v ∷ vs) = ap (λ ws. cond (not (is_null v)) (v ∷ ws) ws) (masked-items bits vs)
masked-items (false ∷ bits) (v ∷ vs) = masked-items bits vs

-- ---- the least and the greatest are among the values

module _ (p : PlainValue → Bool) (f : PlainValue → PlainValue → PlainValue) (keeps : (a b : PlainValue) → p a ≡ true → p b ≡ true → p (f a b) ≡ true) where
  fold-holds : (v : PlainValue) (vs : List PlainValue) → p v ≡ true → list_all p vs ≡ true → p (fold f v vs) ≡ true
  fold-holds v [] h k = h
  fold-holds v (w ∷ vs) h k = let b = and_parts (p w) (list_all p vs) k in fold-holds (f v w) vs (keeps v w h b.0) b.1

  reduce-holds : (vs : List PlainValue) (v : PlainValue) → list_all p vs ≡ true → reduce f vs ≡ Some v → p v ≡ true
  reduce-holds [] v h e = absurd cc
  reduce-holds (w ∷ vs) v h e = let b = and_parts (p w) (list_all p vs) h in let same : fold f w vs ≡ v = cc in ap p (sym same) ∙ fold-holds w vs b.0 b.1

cond-holds : (p : PlainValue → Bool) (c : Bool) (a b : PlainValue) → p a ≡ true → p b ≡ true → p (cond c a b) ≡ true
cond-holds p true a b h k = h
cond-holds p false a b h k = k

valid-holds : (p : PlainValue → Bool) (vs : List PlainValue) → list_all p vs ≡ true → list_all p (valid_values vs) ≡ true
valid-holds p [] h = refl
valid-holds p (v ∷ vs) h = let b = and_parts (p v) (list_all p vs) h in by (not (is_null v)) b.0 (valid-holds p vs b.1)
  where
    by : (b : Bool) → p v ≡ true → list_all p (valid_values vs) ≡ true → list_all p (cond b (v ∷ valid_values vs) (valid_values vs)) ≡ true
    by true here rest = and_from _ _ here rest
    by false here rest = rest

pub least-holds : (p : PlainValue → Bool) (vs : List PlainValue) (v : PlainValue) → list_all p vs ≡ true → least (valid_values vs) ≡ Some v → p v ≡ true
least-holds p vs v h e = reduce-holds p (ord_min value_cmp) (λ a b k l. cond-holds p (is_lt (value_cmp b a)) b a l k) (valid_values vs) v (valid-holds p vs h) e

pub greatest-holds : (p : PlainValue → Bool) (vs : List PlainValue) (v : PlainValue) → list_all p vs ≡ true → greatest (valid_values vs) ≡ Some v → p v ≡ true
greatest-holds p vs v h e = reduce-holds p (ord_max value_cmp) (λ a b k l. cond-holds p (is_lt (value_cmp b a)) a b k l) (valid_values vs) v (valid-holds p vs h) e

-- one answer for an equal one
pub same-answer : {A : Type 0} (r : Result A VortexError) (x y : A) → x ≡ y → Answers r x → Answers r y
same-answer (Ok a) x y e h = h ∙ e
same-answer (Err f) x y e h = h

-- ---- one value further

valid-next : (vs : List PlainValue) (i : ℕ) → i < length vs → valid_values (take (suc i) vs) ≡ valid_values (take i vs) ++ cond (is_null (row_at vs i)) [] (row_at vs i ∷ [])
valid-next [] i h = absurd (omega arith)
valid-next (v ∷ vs) zero h = by (is_null v)
  where
    by : (b : Bool) → cond (not b) (v ∷ []) [] ≡ cond b [] (v ∷ [])
    by true = refl
    by false = refl
valid-next (v ∷ vs) (suc i) h = by (not (is_null v)) (valid-next vs i (omega arith))
  where
    by : (b : Bool) → valid_values (take (suc i) vs) ≡ valid_values (take i vs) ++ cond (is_null (row_at vs i)) [] (row_at vs i ∷ [])
        → cond b (v ∷ valid_values (take (suc i) vs)) (valid_values (take (suc i) vs)) ≡ cond b (v ∷ valid_values (take i vs)) (valid_values (take i vs)) ++ cond (is_null (row_at vs i)) [] (row_at vs i ∷ [])
    by true e = ap (λ ws. v ∷ ws) e
    by false e = e

part-valid : (f : PlainValue → PlainValue → PlainValue) (vs : List PlainValue) (v : PlainValue) (b : Bool) → reduce f (vs ++ cond b [] (v ∷ [])) ≡ cond b (reduce f vs) (Some (with_next f (reduce f vs) v))
part-valid f vs v true = ap (reduce f) (append-nil vs)
part-valid f vs v false = reduce-next f vs v

pub valid-more : (f : PlainValue → PlainValue → PlainValue) (vs : List PlainValue) (i : ℕ) (v : PlainValue) → i < length vs → v ≡ row_at vs i → reduce f (valid_values (take (i + 1) vs)) ≡ next_valid f (reduce f (valid_values (take i vs))) v
valid-more f vs i v h e =
    rw (add-one i) (ap (reduce f) (valid-next vs i h)) ∙ part-valid f (valid_values (take i vs)) (row_at vs i) (is_null (row_at vs i)) ∙ ap (next_valid f (reduce f (valid_values (take i vs)))) (sym e)

-- ---- one value in every row

pub valid-none : (v : PlainValue) (n : ℕ) → is_null v ≡ true → valid_values (replicate n v) ≡ []
valid-none v zero e = refl
valid-none v (suc n) e = ap (λ b. cond (not b) (v ∷ valid_values (replicate n v)) (valid_values (replicate n v))) e ∙ valid-none v n e

valid-same : (v : PlainValue) (n : ℕ) → is_null v ≡ false → valid_values (replicate n v) ≡ replicate n v
valid-same v zero e = refl
valid-same v (suc n) e = ap (λ b. cond (not b) (v ∷ valid_values (replicate n v)) (valid_values (replicate n v))) e ∙ ap (λ vs. v ∷ vs) (valid-same v n e)

cond-same : {A : Type 0} (c : Bool) (x : A) → cond c x x ≡ x
cond-same true x = refl
cond-same false x = refl

fold-same : (f : PlainValue → PlainValue → PlainValue) (v : PlainValue) (n : ℕ) → f v v ≡ v → fold f v (replicate n v) ≡ v
fold-same f v zero e = refl
fold-same f v (suc n) e = ap (λ w. fold f w (replicate n v)) e ∙ fold-same f v n e

reduce-same : (f : PlainValue → PlainValue → PlainValue) (v : PlainValue) (n : ℕ) → f v v ≡ v → 0 < n → reduce f (replicate n v) ≡ Some v
reduce-same f v zero e h = absurd (omega arith)
reduce-same f v (suc n) e h = ap Some (fold-same f v n e)

pub least-none : (v : PlainValue) (n : ℕ) → is_null v ≡ true → least (valid_values (replicate n v)) ≡ None
least-none v n e = ap least (valid-none v n e)

pub greatest-none : (v : PlainValue) (n : ℕ) → is_null v ≡ true → greatest (valid_values (replicate n v)) ≡ None
greatest-none v n e = ap greatest (valid-none v n e)

pub least-same : (v : PlainValue) (n : ℕ) → is_null v ≡ false → 0 < n → least (valid_values (replicate n v)) ≡ Some v
least-same v n e h = ap least (valid-same v n e) ∙ reduce-same (ord_min value_cmp) v n (cond-same (is_lt (value_cmp v v)) v) h

pub greatest-same : (v : PlainValue) (n : ℕ) → is_null v ≡ false → 0 < n → greatest (valid_values (replicate n v)) ≡ Some v
greatest-same v n e h = ap greatest (valid-same v n e) ∙ reduce-same (ord_max value_cmp) v n (cond-same (is_lt (value_cmp v v)) v) h

pub ruleset same_extremes = (least-none, greatest-none, least-same, greatest-same)

-- rows of integers, and what their least and greatest come to
pub ruleset item_rows = (valid-some, valid-masked, least-int, greatest-int)
