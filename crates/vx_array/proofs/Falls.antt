-- Whether numbers never fall, one more number at a time.
use Rattle.std.proofs.Common.{◌≡◌, ◌<◌, ◌≤◌, ◌+◌, ◌-◌, ℕ, zero, suc, List, [], ◌∷◌, length, take, refl, ap, ◌∙◌, add-one, arith, Bool, true, false}
use Rattle.std.specs.Prelude.{int_le, ◌&&◌}
use Rattle.std.proofs.lemmas.Bool.{and_parts, and_from}
use Rattle.vx_base.specs.PlainValue.{PlainValue, whole_or_zero}
use Rattle.vx_model.specs.Rows.{row_at}
use Rattle.vx_model.specs.WellFormed.{never_falls}

-- the row before i is at most row i
abbrev pub at_most : List PlainValue → ℕ → Bool
at_most vs i = int_le (whole_or_zero (row_at vs (i - 1))) (whole_or_zero (row_at vs i))

one_more : (vs : List PlainValue) (i : ℕ) → suc i < length vs → never_falls (take (suc i) vs) ≡ true → int_le (whole_or_zero (row_at vs i)) (whole_or_zero (row_at vs (suc i))) ≡ true → never_falls (take (suc (suc i)) vs) ≡ true
one_more [] i l h e = absurd (omega arith)
one_more (v ∷ []) i l h e = absurd (omega arith)
one_more (v ∷ w ∷ vs) zero l h e = rw e refl
one_more (v ∷ w ∷ vs) (suc i) l h e =
    let b = and_parts (int_le (whole_or_zero v) (whole_or_zero w)) (never_falls (w ∷ take i vs)) h in
    and_from _ _ b.0 (one_more (w ∷ vs) i (omega arith) b.1 e)

one_falls : (vs : List PlainValue) (i : ℕ) → suc i < length vs → int_le (whole_or_zero (row_at vs i)) (whole_or_zero (row_at vs (suc i))) ≡ false → never_falls vs ≡ false
one_falls [] i l e = absurd (omega arith)
one_falls (v ∷ []) i l e = absurd (omega arith)
one_falls (v ∷ w ∷ vs) zero l e = rw e refl
one_falls (v ∷ w ∷ vs) (suc i) l e = rw (one_falls (w ∷ vs) i (omega arith) e) (never (int_le (whole_or_zero v) (whole_or_zero w)))
  where
    never : (b : Bool) → (b && false) ≡ false
    never true = refl
    never false = refl

before : (vs : List PlainValue) (i : ℕ) → int_le (whole_or_zero (row_at vs i)) (whole_or_zero (row_at vs (suc i))) ≡ at_most vs (suc i)
before vs i = let same : i ≡ suc i - 1 = omega arith in ap (λ k. int_le (whole_or_zero (row_at vs k)) (whole_or_zero (row_at vs (suc i)))) same

pub falls-next : (vs : List PlainValue) (i : ℕ) → 1 ≤ i → i < length vs → never_falls (take i vs) ≡ true → at_most vs i ≡ true → never_falls (take (i + 1) vs) ≡ true
falls-next vs zero p l h e = absurd (omega arith)
falls-next vs (suc i) p l h e = rw (add-one (suc i)) (one_more vs i l h (before vs i ∙ e))

pub falls-stop : (vs : List PlainValue) (i : ℕ) → 1 ≤ i → i < length vs → at_most vs i ≡ false → never_falls vs ≡ false
falls-stop vs zero p l e = absurd (omega arith)
falls-stop vs (suc i) p l e = one_falls vs i l (before vs i ∙ e)

pub falls-start : (vs : List PlainValue) → never_falls (take 1 vs) ≡ true
falls-start [] = refl
falls-start (v ∷ vs) = refl

pub falls-end : (vs : List PlainValue) (i : ℕ) → length vs ≤ i → never_falls (take i vs) ≡ never_falls vs
falls-end [] zero l = refl
falls-end [] (suc i) l = refl
falls-end (v ∷ vs) zero l = absurd (omega arith)
falls-end (v ∷ []) (suc zero) l = refl
falls-end (v ∷ []) (suc (suc i)) l = refl
falls-end (v ∷ w ∷ vs) (suc zero) l = absurd (omega arith)
falls-end (v ∷ w ∷ vs) (suc (suc i)) l = rw (falls-end (w ∷ vs) (suc i) (omega arith)) refl

pub ruleset falls = (falls-next, falls-stop, falls-start, falls-end)
