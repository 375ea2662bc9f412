-- Counts of truth values, and when all of them are equal.
use Rattle.std.proofs.Common.{◌≡◌, ℕ, zero, suc, ◌+◌, ◌<◌, ◌≤◌, Bool, true, false, cond, List, [], ◌∷◌, length, map, drop, get_or, replicate, Option, None, Some, refl, sym, ap, inl, inr, ◌⊎◌, ◌∙◌, arith}
use Rattle.std.specs.Prelude.{◌&&◌, ◌==◌, is_some, option_and_then}
use mir.Val.{bool_byte}
use Rattle.std.specs.List.{list_all, list_any}
use Rattle.std.proofs.lemmas.Bool.{and_parts}
use Rattle.std.proofs.lemmas.Bool.Decides.{nat_tests}
use Rattle.std.proofs.lemmas.List.{drop_more, length-map}
use Rattle.std.proofs.lemmas.List.Sums.{sum_by-cons, count_by-le-length}
use Rattle.vx_base.specs.declared.dtype.Nullability.{Nullability}
use Rattle.vx_base.specs.PlainScalar.{fits}
use Rattle.vx_base.specs.PlainType.{boolean}
use Rattle.vx_base.specs.PlainValue.{PlainValue, null, truth, int, bytes, items, is_null, truth_or_false}
use Rattle.vx_base.specs.Masks as masks
use Rattle.vx_model.specs.Leaf.{each_null_or, first_valid, one_value}
use Rattle.vx_model.specs.Rows.{masked_rows}
use Rattle.vx_model.proofs.RowLemmas.{length-masked_rows}
use Rattle.vx_stats.specs.Bools.{true_count, are_equal}
use Rattle.vx_stats.specs.Rows.{valid_count}
use Rattle.vx_stats.proofs.RowCountLemmas.{valid_count-next}

true_count-next : (v : PlainValue) (vs : List PlainValue) → true_count (v ∷ vs) ≡ cond (truth_or_false v) 1 0 + true_count vs
true_count-next v vs = sum_by-cons (λ w. cond (truth_or_false w) 1 0) v vs

abbrev ones : Bool → ℕ
ones b = cond b 1 0

-- ---- tests of counts

same-counts : (a b c d k : ℕ) → a ≡ k + b → c ≡ k + d → (b == d) ≡ (a == c)
same-counts a b c d k e f = grind (arith, nat_tests)

less-count : (a b : ℕ) → a < b → false ≡ (a == b)
less-count a b h = grind (arith, nat_tests)

some-count : (a : ℕ) → 0 < a → false ≡ (a == 0)
some-count a h = grind (arith, nat_tests)

by-none : (v t : ℕ) → v ≡ 0 → false ≡ are_equal v t
by-none v t e = grind (arith, nat_tests)

by-true : (v t : ℕ) → 0 < t → t ≤ v → (t == v) ≡ are_equal v t
by-true v t h k = grind (arith, nat_tests)

by-false : (v t : ℕ) → t < v → (t == 0) ≡ are_equal v t
by-false v t h = grind (arith, nat_tests)

-- ---- all values are equal

module _ (n : Nullability) where
  few-true : (vs : List PlainValue) → list_all (fits (boolean n)) vs ≡ true → true_count vs ≤ valid_count vs
  few-true [] e = omega arith
  few-true (null ∷ vs) e = omega (arith, true_count-next null vs, valid_count-next null vs, few-true vs (and_parts _ _ e).1)
  few-true (truth true ∷ vs) e = omega (arith, true_count-next (truth true) vs, valid_count-next (truth true) vs, few-true vs e)
  few-true (truth false ∷ vs) e = omega (arith, true_count-next (truth false) vs, valid_count-next (truth false) vs, few-true vs e)
  few-true (int z ∷ vs) e = absurd cc
  few-true (bytes bs ∷ vs) e = absurd cc
  few-true (items is ∷ vs) e = absurd cc

  -- all values are true exactly where the numbers are equal, and false exactly where no row is true
  all-true : (vs : List PlainValue) → list_all (fits (boolean n)) vs ≡ true → each_null_or (truth true) vs ≡ (true_count vs == valid_count vs)
  all-true [] e = refl
  all-true (null ∷ vs) e = all-true vs (and_parts _ _ e).1 ∙ same-counts (true_count (null ∷ vs)) (true_count vs) (valid_count (null ∷ vs)) (valid_count vs) 0 (true_count-next null vs) (valid_count-next null vs)
  all-true (truth true ∷ vs) e = all-true vs e ∙ same-counts (true_count (truth true ∷ vs)) (true_count vs) (valid_count (truth true ∷ vs)) (valid_count vs) 1 (true_count-next (truth true) vs) (valid_count-next (truth true) vs)
  all-true (truth false ∷ vs) e = less-count (true_count (truth false ∷ vs)) (valid_count (truth false ∷ vs)) (omega (arith, true_count-next (truth false) vs, valid_count-next (truth false) vs, few-true vs e))
  all-true (int z ∷ vs) e = absurd cc
  all-true (bytes bs ∷ vs) e = absurd cc
  all-true (items is ∷ vs) e = absurd cc

  none-true : (vs : List PlainValue) → list_all (fits (boolean n)) vs ≡ true → each_null_or (truth false) vs ≡ (true_count vs == 0)
  none-true [] e = refl
  none-true (null ∷ vs) e = none-true vs (and_parts _ _ e).1 ∙ ap (λ c. c == 0) (sym (true_count-next null vs ∙ omega arith))
  none-true (truth true ∷ vs) e = some-count (true_count (truth true ∷ vs)) (omega (arith, true_count-next (truth true) vs))
  none-true (truth false ∷ vs) e = none-true vs e ∙ ap (λ c. c == 0) (sym (true_count-next (truth false) vs ∙ omega arith))
  none-true (int z ∷ vs) e = absurd cc
  none-true (bytes bs ∷ vs) e = absurd cc
  none-true (items is ∷ vs) e = absurd cc

  -- there is no value, or the first one is true and so is some row, or it is false and not all of them are true
  first-value : (vs : List PlainValue) → list_all (fits (boolean n)) vs ≡ true
      → ((first_valid vs ≡ None) × (valid_count vs ≡ 0)) ⊎ (((first_valid vs ≡ Some (truth true)) × (0 < true_count vs)) ⊎ ((first_valid vs ≡ Some (truth false)) × (true_count vs < valid_count vs)))
  first-value [] e = inl (refl, refl)
  first-value (null ∷ vs) e =
      let t = true_count-next null vs in
      let v = valid_count-next null vs in
      elim (first-value vs (and_parts _ _ e).1) [
        | inl none ↦ inl (none.0, omega (arith, v, none.1))
        | inr (inl here) ↦ inr (inl (here.0, omega (arith, t, here.1)))
        | inr (inr here) ↦ inr (inr (here.0, omega (arith, t, v, here.1)))
      ]
  first-value (truth true ∷ vs) e = inr (inl (refl, omega (arith, true_count-next (truth true) vs)))
  first-value (truth false ∷ vs) e = inr (inr (refl, omega (arith, true_count-next (truth false) vs, valid_count-next (truth false) vs, few-true vs e)))
  first-value (int z ∷ vs) e = absurd cc
  first-value (bytes bs ∷ vs) e = absurd cc
  first-value (items is ∷ vs) e = absurd cc

  -- some row is valid and all valid rows are equal: as the counts say
  pub constant-counts : (vs : List PlainValue) → list_all (fits (boolean n)) vs ≡ true → are_equal (valid_count vs) (true_count vs) ≡ is_some (one_value vs)
  constant-counts vs e = elim (first-value vs e) [
    | inl none ↦ sym (by-none (valid_count vs) (true_count vs) none.1) ∙ ap (λ o. is_some (option_and_then (one vs) o)) (sym none.0)
    | inr (inl here) ↦
        sym (by-true (valid_count vs) (true_count vs) here.1 (few-true vs e)) ∙ sym (all-true vs e) ∙ told (each_null_or (truth true) vs) (truth true) ∙ ap (λ o. is_some (option_and_then (one vs) o)) (sym here.0)
    | inr (inr here) ↦
        sym (by-false (valid_count vs) (true_count vs) here.1) ∙ sym (none-true vs e) ∙ told (each_null_or (truth false) vs) (truth false) ∙ ap (λ o. is_some (option_and_then (one vs) o)) (sym here.0)
  ]
    where
      one : List PlainValue → PlainValue → Option PlainValue
      one vs v = cond (each_null_or v vs) (Some v) None

      told : (b : Bool) (v : PlainValue) → b ≡ is_some (cond b (Some v) None)
      told true v = refl
      told false v = refl

-- ---- the true rows beneath a mask, row by row

abbrev pub trues_left : List Bool → List Bool → ℕ → ℕ
trues_left bits mask row = true_count (masked_rows (drop row mask) (map truth (drop row bits)))

trues-first : (b m : Bool) (bits mask : List Bool) → true_count (masked_rows (m ∷ mask) (map truth (b ∷ bits))) ≡ bool_byte (b && m) + true_count (masked_rows mask (map truth bits))
trues-first true true bits mask = true_count-next (truth true) (masked_rows mask (map truth bits))
trues-first true false bits mask = true_count-next null (masked_rows mask (map truth bits))
trues-first false true bits mask = true_count-next (truth false) (masked_rows mask (map truth bits))
trues-first false false bits mask = true_count-next null (masked_rows mask (map truth bits))

pub trues_left-next : (bits mask : List Bool) (row : ℕ) → row < length bits → length mask ≡ length bits → trues_left bits mask row ≡ bool_byte (get_or bits row false && get_or mask row false) + trues_left bits mask (row + 1)
trues_left-next bits mask row within same =
    rw (drop_more bits row false within, drop_more mask row false (omega arith)) (trues-first (get_or bits row false) (get_or mask row false) (drop (row + 1) bits) (drop (row + 1) mask))

pub trues_left-few : (bits mask : List Bool) → length mask ≡ length bits → trues_left bits mask 0 ≤ length bits
trues_left-few bits mask same =
    omega (arith, count_by-le-length truth_or_false (masked_rows mask (map truth bits)), length-masked_rows mask (map truth bits) (same ∙ sym (length-map bits truth)), length-map bits truth)

-- the true rows where none is null
pub trues-all : (bits : List Bool) → true_count (map truth bits) ≡ masks.true_count bits
trues-all [] = refl
trues-all (true ∷ bits) = true_count-next (truth true) (map truth bits) ∙ ap (λ n. 1 + n) (trues-all bits) ∙ sym (sum_by-cons (λ b. cond b 1 0) true bits)
trues-all (false ∷ bits) = true_count-next (truth false) (map truth bits) ∙ ap (λ n. 0 + n) (trues-all bits) ∙ sym (sum_by-cons (λ b. cond b 1 0) false bits)

-- the same row n times
pub true-copies : (n : ℕ) (v : PlainValue) → true_count (replicate n v) ≡ cond (truth_or_false v) n 0
true-copies n v = by (truth_or_false v) refl n
  where
    by : (b : Bool) → truth_or_false v ≡ b → (n : ℕ) → true_count (replicate n v) ≡ cond b n 0
    by true e zero = refl
    by false e zero = refl
    by true e (suc n) = omega (arith, true_count-next v (replicate n v), ap ones e, by true e n)
    by false e (suc n) = omega (arith, true_count-next v (replicate n v), ap ones e, by false e n)

pub none-null : (bits : List Bool) → list_any is_null (map truth bits) ≡ false
none-null [] = refl
none-null (b ∷ bits) = none-null bits
