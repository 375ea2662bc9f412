-- Patches: the value of a row, and the steps of a binary search.
use Rattle.std.proofs.Common.{◌≡◌, ◌<◌, ◌≤◌, ◌+◌, ◌-◌, ◌*◌, ◌^◌, add-one, ◌∙◌, ℕ, zero, suc, List, [], ◌∷◌, length, refl, arith, add-one, Bool, true, false, cond, Some, None}
use Rattle.std.proofs.Math.Nat as nat
use Rattle.std.proofs.lemmas.Bool.{cond-true, cond-false, ltb-false}
use Rattle.std.proofs.lemmas.List.Quantifiers.{position-Some}
use Rattle.std.proofs.lemmas.List.Sums.{fails_before_first}
use Rattle.vx_base.specs.PlainValue.{PlainValue, null}
use Rattle.vx_model.specs.Rows.{row_at, patched, is_index, place_of}
use Rattle.vx_model.proofs.PatchLemmas.{NoneBelow}

-- ---- the value of a row, by the position of its patch

first_patched : (is rs : List PlainValue) (fill : PlainValue) (n i : ℕ) → length is ≡ length rs → i < length is → NoneBelow is n i → is_index (row_at is i) n ≡ true → patched is rs fill n ≡ row_at rs i
first_patched [] rs fill n i l h b e = absurd (omega arith)
first_patched (j ∷ is) [] fill n i l h b e = absurd (omega arith)
first_patched (j ∷ is) (r ∷ rs) fill n zero l h b e = cond-true _ _ _ e
first_patched (j ∷ is) (r ∷ rs) fill n (suc i) l h b e =
    cond-false _ _ _ (b 0 (omega arith)) ∙ first_patched is rs fill n i (omega arith) (omega arith) (λ k m. b (suc k) (omega arith)) e

pub patched-place : (is rs : List PlainValue) (fill : PlainValue) (n i : ℕ) → length is ≡ length rs → place_of is n ≡ Some i → patched is rs fill n ≡ row_at rs i
patched-place is rs fill n i l e = let p = position-Some (λ v. is_index v n) is i null e in first_patched is rs fill n i l p.0 p.2 p.1

unpatched : (is rs : List PlainValue) (fill : PlainValue) (n : ℕ) → NoneBelow is n (length is) → patched is rs fill n ≡ fill
unpatched [] rs fill n b = refl
unpatched (j ∷ is) [] fill n b = refl
unpatched (j ∷ is) (r ∷ rs) fill n b = cond-false _ _ _ (b 0 (omega arith)) ∙ unpatched is rs fill n (λ k m. b (suc k) (omega arith))

pub patched-fill : (is rs : List PlainValue) (fill : PlainValue) (n : ℕ) → place_of is n ≡ None → patched is rs fill n ≡ fill
patched-fill is rs fill n e = unpatched is rs fill n (λ j m. let past = no_place _ _ (ltb-false _ _) e in fails_before_first (λ v. is_index v n) is j null (omega arith))
  where
    no_place : (b : Bool) (k : ℕ) {P : Type 0} → (b ≡ false → P) → cond b (Some k) None ≡ None → P
    no_place true k h e = absurd cc
    no_place false k h e = h refl

-- ---- the steps of a binary search

-- one more step, which leaves at most half of the s positions
pub looks-next : (p s t n : ℕ) → 0 < s → 2 * t ≤ s → 2 ^ p * s ≤ n → (2 ^ (p + 1) * t ≤ n) × (2 ^ (p + 1) ≤ 2 * n + 1)
looks-next p s t n some half left =
    let twice : 2 ^ (p + 1) ≡ 2 * 2 ^ p = rw (add-one p) (nat.pow-succ' 2 p) in
    let fewer : 2 ^ p * (2 * t) ≤ 2 ^ p * s = nat.mul-le-mul_left (2 ^ p) half in
    let again : 2 * 2 ^ p * t ≡ 2 ^ p * (2 * t) = omega (arith, nat.mul_assoc (2 ^ p) 2 t, nat.mul_assoc 2 (2 ^ p) t) in
    let one : 2 ^ p ≤ 2 ^ p * s = nat.le-mul_of_pos_right (2 ^ p) some in
    (rw twice (omega (arith, fewer, again, left)), rw twice (omega (arith, one, left)))

-- for steps counted from s0 on, and positions from low to high
pub looks-after : (s0 s s' low high t n : ℕ) → s0 ≤ s → s' ≡ s + 1 → low < high → 2 * t ≤ high - low → 2 ^ (s - s0) * (high - low) ≤ n → (2 ^ (s' - s0) * t ≤ n) × (2 ^ (s' - s0) ≤ 2 * n + 1)
looks-after s0 s s' low high t n rose next some half left =
    let more : s' - s0 ≡ s - s0 + 1 = omega arith in
    rw more (looks-next (s - s0) (high - low) t n (omega arith) half left)
