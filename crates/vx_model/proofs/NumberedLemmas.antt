-- Integers mapped by their value and the number of their row; null stays null.
use Rattle.std.proofs.Common.{◌≡◌, ◌<◌, ◌+◌, ◌∙◌, ℕ, zero, suc, ℤ, pos, List, [], ◌∷◌, length, map, refl, ap, subst, sym, arith, Bool, true, false, Some, None}
use Rattle.std.specs.Prelude.{not}
use Rattle.std.specs.List.{list_all, list_any, range_with_len}
use Rattle.std.proofs.lemmas.Bool.{and_parts, cond_both}
use Rattle.vx_base.specs.PlainValue.{PlainValue, null, is_null, whole_or_zero}
use Rattle.vx_model.specs.Decoded.{zeroed, zeroed_by}
use Rattle.vx_model.specs.Plain.{validity, valid_bits}
use Rattle.vx_model.specs.Rows.{row_at, below, each_int}
use Rattle.vx_model.proofs.EachIntLemmas.{is_null-each_int}
use Rattle.vx_model.proofs.PackedLemmas.{length-below, row_at-below}

-- a test that holds of each number of a range holds of one
numbered_passes : (p : ℕ → Bool) (start n j : ℕ) → list_all p (range_with_len start n) ≡ true → j < n → p (start + j) ≡ true
numbered_passes p start zero j h l = absurd (omega arith)
numbered_passes p start (suc n) zero h l = let e : start + 0 ≡ start = omega arith in subst (λ k. p k ≡ true) (sym e) (and_parts _ _ h).0
numbered_passes p start (suc n) (suc j) h l = let e : start + 1 + j ≡ start + suc j = omega arith in subst (λ k. p k ≡ true) e (numbered_passes p (start + 1) n j (and_parts _ _ h).1 (omega arith))

pub below_passes : (p : ℕ → Bool) (n i : ℕ) → list_all p (range_with_len 0 n) ≡ true → i < n → p i ≡ true
below_passes p n i h l = let e : 0 + i ≡ i = omega arith in subst (λ k. p k ≡ true) e (numbered_passes p 0 n i h l)

module _ (f : ℕ → ℤ → ℤ) where
  -- row i, by its number and its integer
  abbrev pub each_row : List PlainValue → ℕ → PlainValue
  each_row rs i = each_int (f i) (row_at rs i)

  -- rows from number i on, one after another
  abbrev each_from : ℕ → List PlainValue → List PlainValue
  each_from i [] = []
  each_from i (r ∷ rs) = each_int (f i) r ∷ each_from (i + 1) rs

  one_by_one : (g : ℕ → PlainValue) (start : ℕ) (rs : List PlainValue) → ((j : ℕ) → j < length rs → g (start + j) ≡ each_int (f (start + j)) (row_at rs j))
      → map g (range_with_len start (length rs)) ≡ each_from start rs
  one_by_one g start [] h = refl
  one_by_one g start (r ∷ rs) h =
      let here : g start ≡ each_int (f start) r = (let e : start + 0 ≡ start = omega arith in subst (λ k. g k ≡ each_int (f k) r) e (h 0 (omega arith))) in
      let later = one_by_one g (start + 1) rs (λ j l. let e : start + suc j ≡ start + 1 + j = omega arith in subst (λ k. g k ≡ each_int (f k) (row_at rs j)) e (h (suc j) (omega arith))) in
      λ i. here i ∷ later i

  below-each_row : (rs : List PlainValue) → below (each_row rs) (length rs) ≡ each_from 0 rs
  below-each_row rs = one_by_one (each_row rs) 0 rs (λ j l. let e : 0 + j ≡ j = omega arith in ap (λ k. each_int (f (0 + j)) (row_at rs k)) e)

  pub length-each_row : (rs : List PlainValue) → length (below (each_row rs) (length rs)) ≡ length rs
  length-each_row rs = length-below (each_row rs) (length rs)

  pub row_at-each_row : (rs : List PlainValue) (i : ℕ) → i < length rs → row_at (below (each_row rs) (length rs)) i ≡ each_row rs i
  row_at-each_row rs i l = row_at-below (each_row rs) (length rs) i l

  -- ---- nulls and validity stay

  any_null-from : (i : ℕ) (rs : List PlainValue) → list_any is_null (each_from i rs) ≡ list_any is_null rs
  any_null-from i [] = refl
  any_null-from i (r ∷ rs) = rw (is_null-each_int (f i) r, any_null-from (i + 1) rs) refl

  pub any_null-each_row : (rs : List PlainValue) → list_any is_null (below (each_row rs) (length rs)) ≡ list_any is_null rs
  any_null-each_row rs = ap (list_any is_null) (below-each_row rs) ∙ any_null-from 0 rs

  valid_bits-from : (i : ℕ) (rs : List PlainValue) → valid_bits (each_from i rs) ≡ valid_bits rs
  valid_bits-from i [] = refl
  valid_bits-from i (r ∷ rs) = λ j. not (is_null-each_int (f i) r j) ∷ valid_bits-from (i + 1) rs j

  pub validity-each_row : (rs : List PlainValue) → validity (below (each_row rs) (length rs)) ≡ validity rs
  validity-each_row rs = rw (below-each_row rs, any_null-from 0 rs, valid_bits-from 0 rs) refl

  -- ---- whole numbers with 0 beneath nulls

  abbrev whole_row : List PlainValue → ℕ → ℤ
  whole_row rs i = f i (whole_or_zero (row_at rs i))

  abbrev wholes_from : ℕ → List PlainValue → List ℤ
  wholes_from i [] = []
  wholes_from i (r ∷ rs) = f i (whole_or_zero r) ∷ wholes_from (i + 1) rs

  whole_by_one : (g : ℕ → ℤ) (start : ℕ) (rs : List PlainValue) → ((j : ℕ) → j < length rs → g (start + j) ≡ f (start + j) (whole_or_zero (row_at rs j)))
      → map g (range_with_len start (length rs)) ≡ wholes_from start rs
  whole_by_one g start [] h = refl
  whole_by_one g start (r ∷ rs) h =
      let here : g start ≡ f start (whole_or_zero r) = (let e : start + 0 ≡ start = omega arith in subst (λ k. g k ≡ f k (whole_or_zero r)) e (h 0 (omega arith))) in
      let later = whole_by_one g (start + 1) rs (λ j l. let e : start + suc j ≡ start + 1 + j = omega arith in subst (λ k. g k ≡ f k (whole_or_zero (row_at rs j))) e (h (suc j) (omega arith))) in
      λ i. here i ∷ later i

  below-whole_row : (rs : List PlainValue) → below (whole_row rs) (length rs) ≡ wholes_from 0 rs
  below-whole_row rs = whole_by_one (whole_row rs) 0 rs (λ j l. let e : 0 + j ≡ j = omega arith in ap (λ k. f (0 + j) (whole_or_zero (row_at rs k))) e)

  wholes_bits : (i : ℕ) (rs : List PlainValue) → map whole_or_zero (each_from i rs) ≡ zeroed (pos 0) (valid_bits rs) (wholes_from i rs)
  wholes_bits i [] = refl
  wholes_bits i (null ∷ rs) = ap (λ xs. pos 0 ∷ xs) (wholes_bits (i + 1) rs)
  wholes_bits i (v ∷ rs) = ap (λ xs. f i (whole_or_zero v) ∷ xs) (wholes_bits (i + 1) rs)

  wholes_all : (i : ℕ) (rs : List PlainValue) → list_any is_null rs ≡ false → map whole_or_zero (each_from i rs) ≡ wholes_from i rs
  wholes_all i [] e = refl
  wholes_all i (null ∷ rs) e = absurd cc
  wholes_all i (v ∷ rs) e = ap (λ xs. f i (whole_or_zero v) ∷ xs) (wholes_all (i + 1) rs e)

  pub wholes-each_row : (rs : List PlainValue) → map whole_or_zero (below (each_row rs) (length rs)) ≡ zeroed_by (pos 0) (validity rs) (below (whole_row rs) (length rs))
  wholes-each_row rs =
      ap (map whole_or_zero) (below-each_row rs)
      ∙ cond_both (list_any is_null rs) (Some (valid_bits rs)) None (λ valid. map whole_or_zero (each_from 0 rs) ≡ zeroed_by (pos 0) valid (wholes_from 0 rs)) (λ some. wholes_bits 0 rs) (λ none. wholes_all 0 rs none)
      ∙ sym (ap (zeroed_by (pos 0) (validity rs)) (below-whole_row rs))
