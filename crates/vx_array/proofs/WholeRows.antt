-- Integers by the rows of a tree, 0 beneath nulls.
use Rattle.std.proofs.Common.{◌≡◌, ◌<◌, ◌+◌, ℕ, zero, suc, ℤ, pos, Bool, true, false, List, [], ◌∷◌, length, map, get_or, refl, subst, arith, cond, Some, None}
use Rattle.std.specs.Prelude.{not}
use Rattle.std.specs.List.{list_any, range_with_len}
use Rattle.std.proofs.lemmas.Bool.{cond_both, or_parts}
use Rattle.vx_base.specs.PlainValue.{PlainValue, is_null, whole_or_zero}
use Rattle.vx_model.specs.Decoded.{zeroed, zeroed_by}
use Rattle.vx_model.specs.Plain.{validity, valid_bits}
use Rattle.vx_model.specs.Rows.{row_at}

-- a row's integer, 0 out of bounds
pub whole-row : (rs : List PlainValue) (k : ℕ) → get_or (map whole_or_zero rs) k (pos 0) ≡ whole_or_zero (row_at rs k)
whole-row [] k = refl
whole-row (r ∷ rs) zero = refl
whole-row (r ∷ rs) (suc k) = whole-row rs k

-- no row is null
none_null : (vs : List PlainValue) (k : ℕ) → k < length vs → list_any is_null vs ≡ false → is_null (row_at vs k) ≡ false
none_null [] k l e = absurd (omega arith)
none_null (v ∷ vs) zero l e = (or_parts (is_null v) (list_any is_null vs) e).0
none_null (v ∷ vs) (suc k) l e = none_null vs k (omega arith) (or_parts (is_null v) (list_any is_null vs) e).1

module _ (f g : ℕ → ℤ) where
  same-range : (start n : ℕ) → ((i : ℕ) → i < n → f (start + i) ≡ g (start + i)) → map f (range_with_len start n) ≡ map g (range_with_len start n)
  same-range start zero h = refl
  same-range start (suc n) h =
      let at : start + 0 ≡ start = omega arith in
      let here : f start ≡ g start = subst (λ k. f k ≡ g k) at (h 0 (omega arith)) in
      let later = same-range (start + 1) n (λ i l. let e : start + suc i ≡ start + 1 + i = omega arith in subst (λ k. f k ≡ g k) e (h (suc i) (omega arith))) in
      λ j. here j ∷ later j

  same-zeroed : (vs : List PlainValue) (start : ℕ) → ((i : ℕ) → i < length vs → is_null (row_at vs i) ≡ false → f (start + i) ≡ g (start + i))
      → zeroed (pos 0) (valid_bits vs) (map f (range_with_len start (length vs))) ≡ zeroed (pos 0) (valid_bits vs) (map g (range_with_len start (length vs)))
  same-zeroed [] start h = refl
  same-zeroed (v ∷ vs) start h =
      let at : start + 0 ≡ start = omega arith in
      let here : is_null v ≡ false → f start ≡ g start = λ some. subst (λ k. f k ≡ g k) at (h 0 (omega arith) some) in
      let later = same-zeroed vs (start + 1) (λ i l some. let e : start + suc i ≡ start + 1 + i = omega arith in subst (λ k. f k ≡ g k) e (h (suc i) (omega arith) some)) in
      λ j. head (is_null v) here j ∷ later j
    where
      head : (b : Bool) → (b ≡ false → f start ≡ g start) → cond (not b) (f start) (pos 0) ≡ cond (not b) (g start) (pos 0)
      head true e = refl
      head false e = e refl

  -- what stands beneath nulls doesn't count
  pub same-valid : (vs : List PlainValue) → ((i : ℕ) → i < length vs → is_null (row_at vs i) ≡ false → f i ≡ g i)
      → zeroed_by (pos 0) (validity vs) (map f (range_with_len 0 (length vs))) ≡ zeroed_by (pos 0) (validity vs) (map g (range_with_len 0 (length vs)))
  same-valid vs h =
      let each : (i : ℕ) → i < length vs → is_null (row_at vs i) ≡ false → f (0 + i) ≡ g (0 + i) = λ i l some. (let e : i ≡ 0 + i = omega arith in subst (λ k. f k ≡ g k) e (h i l some)) in
      cond_both (list_any is_null vs) (Some (valid_bits vs)) None (λ valid. zeroed_by (pos 0) valid (map f (range_with_len 0 (length vs))) ≡ zeroed_by (pos 0) valid (map g (range_with_len 0 (length vs))))
      (λ some. same-zeroed vs 0 each) (λ none. same-range 0 (length vs) (λ i l. each i l (none_null vs i l none)))
