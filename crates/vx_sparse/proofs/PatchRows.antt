-- The rows of patches, one patch after another.
use Rattle.std.proofs.Common.{◌≡◌, ◌<◌, ◌≤◌, ◌+◌, ◌∙◌, ◌++◌, ℕ, zero, suc, pos, true, List, [], ◌∷◌, length, map, take, refl, ap, subst, arith, Option, None, Some}
use Rattle.std.specs.Prelude.{unwrap_or}
use Rattle.std.proofs.lemmas.List.{map-append, take_more}
use Rattle.vx_base.specs.PlainValue.{PlainValue, null, int}
use Rattle.vx_model.specs.Rows.{row_at, index_of, offset_at}
use Rattle.vx_model.specs.WellFormed.{ascend}
use Rattle.vx_model.proofs.PatchLemmas.{ascend_parts, ascend-index, ascend-within}

-- a function of each, one more
pub map-more : {A : Type 0} (f : PlainValue → A) (is : List PlainValue) (i : ℕ) → i < length is → map f (take (i + 1) is) ≡ map f (take i is) ++ f (row_at is i) ∷ []
map-more f is i l = ap (map f) (take_more is i null l) ∙ map-append f (take i is) (row_at is i ∷ [])

module _ (low high : ℕ) (is : List PlainValue) (rising : ascend low high is ≡ true) where
  -- an index is within the ends
  pub index-within : (i : ℕ) → i < length is → (low ≤ offset_at is i) × (offset_at is i < high)
  index-within i l = by (index_of (row_at is i)) refl
    where
      by : (o : Option ℕ) → index_of (row_at is i) ≡ o → (low ≤ offset_at is i) × (offset_at is i < high)
      by None e = absurd (ascend-index low high is i rising l e)
      by (Some n) e =
          let own : offset_at is i ≡ n = ap (λ o. unwrap_or o 0) e in
          let held = ascend-within low high is i n rising l e in
          (omega (arith, own, held.0), omega (arith, own, held.1))

-- and no greater than the next one
pub index-rises : (low high : ℕ) (is : List PlainValue) (i : ℕ) → ascend low high is ≡ true → i + 1 < length is → offset_at is i ≤ offset_at is (i + 1)
index-rises low high [] i e l = absurd (omega arith)
index-rises low high (int (pos x) ∷ is) zero e l = let p = ascend_parts low high x is e in let next = index-within (x + 1) high is p.2 0 (omega arith) in omega (arith, next.0)
index-rises low high (int (pos x) ∷ is) (suc i) e l =
    let p = ascend_parts low high x is e in
    let next : suc (i + 1) ≡ suc i + 1 = omega arith in
    subst (λ k. offset_at is i ≤ offset_at (int (pos x) ∷ is) k) next (index-rises (x + 1) high is i p.2 (omega arith))
index-rises low high (v ∷ is) i e l = absurd cc

-- numbers as a column of integers
pub numbers-values : (f : PlainValue → ℕ) (is : List PlainValue) → map int (map pos (map f is)) ≡ map (λ v. int (pos (f v))) is
numbers-values f [] = refl
numbers-values f (v ∷ is) = ap (λ vs. int (pos (f v)) ∷ vs) (numbers-values f is)
