-- One thing of each row of three columns that are equally long: numbered, and of rows that were chosen.
use Rattle.std.proofs.Common.{◌≡◌, ◌<◌, ◌+◌, ◌∙◌, ℕ, zero, suc, Bool, true, false, List, [], ◌∷◌, length, map, take, drop, refl, ap, subst, arith}
use Rattle.std.specs.Prelude.{◌&&◌}
use Rattle.std.specs.List.{list_all, range_with_len}
use Rattle.std.proofs.lemmas.Bool.{and_parts, and_from}
use Rattle.vx_base.specs.Masks.{rows_between}
use Rattle.vx_base.specs.PlainValue.{PlainValue}
use Rattle.vx_model.specs.Rows.{row_at}
use Rattle.vx_rules.specs.Selections.{kept_items}

module _ {A : Type 0} (f : PlainValue → PlainValue → PlainValue → A) where
  -- f of each row
  abbrev pub each3 : List PlainValue → List PlainValue → List PlainValue → List A
  each3 [] ss us = []
  each3 (d ∷ ds) [] us = []
  each3 (d ∷ ds) (s ∷ ss) [] = []
  each3 (d ∷ ds) (s ∷ ss) (u ∷ us) = f d s u ∷ each3 ds ss us

  -- f of row i
  abbrev pub of_row : List PlainValue → List PlainValue → List PlainValue → ℕ → A
  of_row ds ss us i = f (row_at ds i) (row_at ss i) (row_at us i)

  one_by_one : (g : ℕ → A) (start : ℕ) (ds ss us : List PlainValue) → length ss ≡ length ds → length us ≡ length ds → ((j : ℕ) → j < length ds → g (start + j) ≡ of_row ds ss us j)
      → map g (range_with_len start (length ds)) ≡ each3 ds ss us
  one_by_one g start [] ss us l m h = refl
  one_by_one g start (d ∷ ds) [] us l m h = absurd (omega (arith, l))
  one_by_one g start (d ∷ ds) (s ∷ ss) [] l m h = absurd (omega (arith, m))
  one_by_one g start (d ∷ ds) (s ∷ ss) (u ∷ us) l m h =
      let here : g start ≡ f d s u = (let e : start + 0 ≡ start = omega arith in subst (λ k. g k ≡ f d s u) e (h 0 (omega arith))) in
      let later = one_by_one g (start + 1) ds ss us (omega (arith, l)) (omega (arith, m)) (λ j b. let e : start + suc j ≡ start + 1 + j = omega arith in subst (λ k. g k ≡ of_row ds ss us j) e (h (suc j) (omega (arith, b)))) in
      λ i. here i ∷ later i

  -- by number
  pub numbered : (ds ss us : List PlainValue) → length ss ≡ length ds → length us ≡ length ds → map (of_row ds ss us) (range_with_len 0 (length ds)) ≡ each3 ds ss us
  numbered ds ss us l m = one_by_one (of_row ds ss us) 0 ds ss us l m (λ j b. let e : 0 + j ≡ j = omega arith in ap (of_row ds ss us) e)

  taken : (n : ℕ) (ds ss us : List PlainValue) → length ss ≡ length ds → length us ≡ length ds → take n (each3 ds ss us) ≡ each3 (take n ds) (take n ss) (take n us)
  taken zero ds ss us l m = refl
  taken (suc n) [] ss us l m = refl
  taken (suc n) (d ∷ ds) [] us l m = absurd (omega (arith, l))
  taken (suc n) (d ∷ ds) (s ∷ ss) [] l m = absurd (omega (arith, m))
  taken (suc n) (d ∷ ds) (s ∷ ss) (u ∷ us) l m = ap (λ xs. f d s u ∷ xs) (taken n ds ss us (omega (arith, l)) (omega (arith, m)))

  dropped : (n : ℕ) (ds ss us : List PlainValue) → length ss ≡ length ds → length us ≡ length ds → drop n (each3 ds ss us) ≡ each3 (drop n ds) (drop n ss) (drop n us)
  dropped zero ds ss us l m = refl
  dropped (suc n) [] ss us l m = refl
  dropped (suc n) (d ∷ ds) [] us l m = absurd (omega (arith, l))
  dropped (suc n) (d ∷ ds) (s ∷ ss) [] l m = absurd (omega (arith, m))
  dropped (suc n) (d ∷ ds) (s ∷ ss) (u ∷ us) l m = dropped n ds ss us (omega (arith, l)) (omega (arith, m))

  -- of the kept rows
  pub kept-each3 : (keep : List Bool) (ds ss us : List PlainValue) → length ss ≡ length ds → length us ≡ length ds → kept_items keep (each3 ds ss us) ≡ each3 (kept_items keep ds) (kept_items keep ss) (kept_items keep us)
  kept-each3 [] ds ss us l m = refl
  kept-each3 (b ∷ keep) [] ss us l m = refl
  kept-each3 (b ∷ keep) (d ∷ ds) [] us l m = absurd (omega (arith, l))
  kept-each3 (b ∷ keep) (d ∷ ds) (s ∷ ss) [] l m = absurd (omega (arith, m))
  kept-each3 (true ∷ keep) (d ∷ ds) (s ∷ ss) (u ∷ us) l m = ap (λ xs. f d s u ∷ xs) (kept-each3 keep ds ss us (omega (arith, l)) (omega (arith, m)))
  kept-each3 (false ∷ keep) (d ∷ ds) (s ∷ ss) (u ∷ us) l m = kept-each3 keep ds ss us (omega (arith, l)) (omega (arith, m))

drop-lengths : (n : ℕ) (xs ys : List PlainValue) → length xs ≡ length ys → length (drop n xs) ≡ length (drop n ys)
drop-lengths zero xs ys l = l
drop-lengths (suc n) [] [] l = refl
drop-lengths (suc n) [] (y ∷ ys) l = absurd (omega (arith, l))
drop-lengths (suc n) (x ∷ xs) [] l = absurd (omega (arith, l))
drop-lengths (suc n) (x ∷ xs) (y ∷ ys) l = drop-lengths n xs ys (omega (arith, l))

take-lengths : (n : ℕ) (xs ys : List PlainValue) → length xs ≡ length ys → length (take n xs) ≡ length (take n ys)
take-lengths zero xs ys l = refl
take-lengths (suc n) [] [] l = refl
take-lengths (suc n) [] (y ∷ ys) l = absurd (omega (arith, l))
take-lengths (suc n) (x ∷ xs) [] l = absurd (omega (arith, l))
take-lengths (suc n) (x ∷ xs) (y ∷ ys) l = ap suc (take-lengths n xs ys (omega (arith, l)))

pub between-lengths : (start end : ℕ) (xs ys : List PlainValue) → length xs ≡ length ys → length (rows_between xs start end) ≡ length (rows_between ys start end)
between-lengths start end xs ys l = take-lengths _ (drop start xs) (drop start ys) (drop-lengths start xs ys l)

-- of the rows of a range
pub between-each3 : {A : Type 0} (f : PlainValue → PlainValue → PlainValue → A) (start end : ℕ) (ds ss us : List PlainValue) → length ss ≡ length ds → length us ≡ length ds
    → rows_between (each3 f ds ss us) start end ≡ each3 f (rows_between ds start end) (rows_between ss start end) (rows_between us start end)
between-each3 f start end ds ss us l m =
    ap (take _) (dropped f start ds ss us l m) ∙ taken f _ (drop start ds) (drop start ss) (drop start us) (drop-lengths start ss ds l) (drop-lengths start us ds m)

all-taken : {A : Type 0} (p : A → Bool) (n : ℕ) (xs : List A) → list_all p xs ≡ true → list_all p (take n xs) ≡ true
all-taken p zero xs h = refl
all-taken p (suc n) [] h = refl
all-taken p (suc n) (x ∷ xs) h = let a = and_parts (p x) (list_all p xs) h in and_from _ _ a.0 (all-taken p n xs a.1)

all-dropped : {A : Type 0} (p : A → Bool) (n : ℕ) (xs : List A) → list_all p xs ≡ true → list_all p (drop n xs) ≡ true
all-dropped p zero xs h = h
all-dropped p (suc n) [] h = refl
all-dropped p (suc n) (x ∷ xs) h = all-dropped p n xs (and_parts (p x) (list_all p xs) h).1

-- a test that each row passes, of the rows of a range
pub all-between : {A : Type 0} (p : A → Bool) (start end : ℕ) (xs : List A) → list_all p xs ≡ true → list_all p (rows_between xs start end) ≡ true
all-between p start end xs h = all-taken p _ (drop start xs) (all-dropped p start xs h)

-- a test of mapped items
pub all-mapped : {A : Type 0} (p : A → Bool) (xs : List A) → list_all (λ b. b) (map p xs) ≡ list_all p xs
all-mapped p [] = refl
all-mapped p (x ∷ xs) = ap (λ b. p x && b) (all-mapped p xs)
