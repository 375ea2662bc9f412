-- The numbers of patched rows, from the integers and their validity.
use Rattle.std.proofs.Common.{◌≡◌, ◌<◌, ◌≤◌, ◌+◌, ◌∙◌, ℕ, zero, suc, ℤ, pos, Bool, true, false, cond, List, ◌∷◌, length, map, get_or, None, Some, refl, sym, ap, arith}
use Rattle.std.specs.Prelude.{◌||◌, filter, not}
use Rattle.std.specs.List.{range_with_len}
use Rattle.std.specs.Ordering.{int_eq}
use Rattle.std.proofs.lemmas.Int.{ints}
use Rattle.vx_base.specs.PlainValue.{PlainValue, null, int, is_null, same_value, stored_value}
use Rattle.vx_base.specs.Storable.{same_from}
use Rattle.vx_model.specs.Refusals.{validity_length}
use Rattle.vx_model.specs.Rows.{row_at, is_valid_at, valid_rows}
use Rattle.vx_model.specs.Tree.{Validity}
use Rattle.vx_model.proofs.RowLemmas.{row_at-cells, length-cells}
use Rattle.vx_sparse_array.specs.Filling.{null_filling, value_filling, patched_rows}

-- ---- tests that agree choose the same numbers

pub filter-same : (p q : ℕ → Bool) (start n : ℕ) → ((i : ℕ) → start ≤ i → i < start + n → p i ≡ q i) → filter p (range_with_len start n) ≡ filter q (range_with_len start n)
filter-same p q start zero h = refl
filter-same p q start (suc n) h =
    let here = h start (omega arith) (omega arith) in
    let rest = filter-same p q (start + 1) n (λ i l m. h i (omega arith) (omega arith)) in
    λ i. cond (here i) (start ∷ rest i) (rest i)

filter-all : (p : ℕ → Bool) (start n : ℕ) → ((i : ℕ) → start ≤ i → i < start + n → p i ≡ true) → filter p (range_with_len start n) ≡ range_with_len start n
filter-all p start zero h = refl
filter-all p start (suc n) h = rw (h start (omega arith) (omega arith)) (ap (λ l. start ∷ l) (filter-all p (start + 1) n (λ i l m. h i (omega arith) (omega arith))))

-- ---- integers are one value where they are equal

same-number : (x z : ℤ) → int_eq x z ≡ true → x ≡ z
same-number x z h = grind (arith, ints)

eq-self : (x : ℤ) → int_eq x x ≡ true
eq-self x = grind (arith, ints)

pub same-int : (x z : ℤ) → same_value (int x) (int z) ≡ int_eq x z
same-int x z = sym (same_from stored_value (int x) (int z) (int_eq x z) (λ e. ap int (same-number x z e)) (λ e. (let same : x ≡ z = cc in sym (ap (int_eq x) same) ∙ eq-self x)))

-- ---- the rows of integers with their validity

module _ (valid : Validity) (xs : List ℤ) (h : validity_length valid (length xs) ≡ true) where
  abbrev cells : List PlainValue
  cells = valid_rows valid (map int xs)

  long : length cells ≡ length xs
  long = length-cells valid xs h

  -- null or another number
  pub others-are : (z : ℤ) → filter (λ i. not (is_valid_at valid i) || not (int_eq (get_or xs i (pos 0)) z)) (range_with_len 0 (length xs)) ≡ patched_rows (value_filling (int z)) cells
  others-are z =
      filter-same _ _ 0 (length xs) (λ i l m. let within : i < length xs = omega arith in test (is_valid_at valid i) (get_or xs i (pos 0)) ∙ sym (ap (λ v. is_null v || not (same_value v (int z))) (row_at-cells valid xs i h within)))
      ∙ ap (λ n. filter (λ i. is_null (row_at cells i) || not (same_value (row_at cells i) (int z))) (range_with_len 0 n)) (sym long)
    where
      test : (b : Bool) (x : ℤ) → (not b || not (int_eq x z)) ≡ (is_null (cond b (int x) null) || not (same_value (cond b (int x) null) (int z)))
      test true x = ap not (sym (same-int x z))
      test false x = refl

  -- the rows that have a number
  pub valid-are : filter (is_valid_at valid) (range_with_len 0 (length xs)) ≡ patched_rows null_filling cells
  valid-are =
      filter-same _ _ 0 (length xs) (λ i l m. let within : i < length xs = omega arith in test (is_valid_at valid i) (get_or xs i (pos 0)) ∙ sym (ap (λ v. not (is_null v)) (row_at-cells valid xs i h within)))
      ∙ ap (λ n. filter (λ i. not (is_null (row_at cells i))) (range_with_len 0 n)) (sym long)
    where
      test : (b : Bool) (x : ℤ) → b ≡ not (is_null (cond b (int x) null))
      test true x = refl
      test false x = refl

-- all of them, where none is null
pub all-are : (xs : List ℤ) → range_with_len 0 (length xs) ≡ patched_rows null_filling (map int xs)
all-are xs = sym (filter-all (is_valid_at None) 0 (length xs) (λ i l m. refl)) ∙ valid-are None xs refl

-- ---- as loops over slices find them

-- with a bit for each row
pub found-by_bits : (valid : Validity) (mask bits : List Bool) (xs : List ℤ) (n : ℕ) (w z : ℤ) → valid ≡ Some mask → bits ≡ mask → n ≡ length xs → w ≡ z → validity_length valid (length xs) ≡ true
    → filter (λ i. not (get_or bits i false) || not (int_eq (get_or xs i (pos 0)) w)) (range_with_len 0 n) ≡ patched_rows (value_filling (int z)) (valid_rows valid (map int xs))
found-by_bits valid mask bits xs n w z v b l e h =
    (λ j. filter (λ i. not (get_or (b j) i false) || not (int_eq (get_or xs i (pos 0)) (e j))) (range_with_len 0 (l j)))
    ∙ ap (λ (u : Validity). filter (λ i. not (is_valid_at u i) || not (int_eq (get_or xs i (pos 0)) z)) (range_with_len 0 (length xs))) (sym v) ∙ others-are valid xs h z

-- without
pub found-by_items : (valid : Validity) (xs : List ℤ) (n : ℕ) (w z : ℤ) → valid ≡ None → n ≡ length xs → w ≡ z → validity_length valid (length xs) ≡ true
    → filter (λ i. not (int_eq (get_or xs i (pos 0)) w)) (range_with_len 0 n) ≡ patched_rows (value_filling (int z)) (valid_rows valid (map int xs))
found-by_items valid xs n w z v l e h =
    (λ j. filter (λ i. not (int_eq (get_or xs i (pos 0)) (e j))) (range_with_len 0 (l j)))
    ∙ ap (λ (u : Validity). filter (λ i. not (is_valid_at u i) || not (int_eq (get_or xs i (pos 0)) z)) (range_with_len 0 (length xs))) (sym v) ∙ others-are valid xs h z

pub ruleset integer_rows = (others-are, valid-are, all-are)
