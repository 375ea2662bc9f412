-- Ascending indices of patches and the places between them: fewer indices than places leave one without a patch.
use Rattle.std.proofs.Common.{◌≡◌, inl, inr, ◌<◌, ◌≤◌, ◌+◌, ◌∙◌, ℕ, suc, pos, List, [], ◌∷◌, length, refl, ap, sym, arith, Bool, true, false, Some, None}
use Rattle.std.specs.Prelude.{◌==◌}
use Rattle.std.proofs.lemmas.Bool.{cond-false, cases_lt, eq-eqb, eqb-true, ne_eqb, true≢false}
use Rattle.vx_base.specs.PlainValue.{PlainValue, int}
use Rattle.vx_model.specs.Rows.{row_at, index_of, is_index, place_of, patched}
use Rattle.vx_model.specs.WellFormed.{ascend}
use Rattle.vx_model.proofs.PatchLemmas.{ascend_parts, ascend_from, above_all, none_below-start, place-found}
use Rattle.vx_model.proofs.SparseCountLemmas.{ascend-few}
use Rattle.vx_model.proofs.SparseLemmas.{patched-none}

-- ---- rows without a patch

-- where no index is n, there are fewer indices than places for them
index-is : (v : PlainValue) (n : ℕ) → is_index v n ≡ true → index_of v ≡ Some n
index-is (int (pos m)) n e = ap Some (eqb-true m n e)
index-is v n e = absurd cc

pub hole-few : (low high : ℕ) (is : List PlainValue) (n : ℕ) → ascend low high is ≡ true → low ≤ n → n < high → ((j : ℕ) → j < length is → is_index (row_at is j) n ≡ false) → length is + low < high
hole-few low high [] n e a b f = omega arith
hole-few low high (int (pos x) ∷ is) n e a b f =
    let p = ascend_parts low high x is e in
    let from = p.0 in
    elim (cases_lt n x) [
      | inl less ↦ let few = ascend-few (x + 1) high is p.2 (let most = p.1 in omega arith) in omega arith
      | inr more ↦
          elim (cases_lt x n) [
            | inl less ↦ let few = hole-few (x + 1) high is n p.2 (omega arith) b (λ j l. f (suc j) (omega arith)) in omega arith
            | inr same ↦ absurd (true≢false (sym (eq-eqb x n (omega arith)) ∙ f 0 (omega arith)))
          ]
    ]
hole-few low high (i ∷ is) n e a b f = absurd cc

pub unpatched : (low high : ℕ) (is : List PlainValue) (n : ℕ) → ascend low high is ≡ true → place_of is n ≡ None → (j : ℕ) → j < length is → is_index (row_at is j) n ≡ false
unpatched low high is n e none j l = pick (is_index (row_at is j) n) refl
  where
    pick : (b : Bool) → is_index (row_at is j) n ≡ b → is_index (row_at is j) n ≡ false
    pick true f = absurd (let found = sym none ∙ place-found low high is n j e l (index-is (row_at is j) n f) in cc)
    pick false f = f

-- and where there are fewer, some place has the fill
pub record IsFilled (is : List PlainValue) (low high : ℕ) : Type 0 where
  pub number : ℕ
  pub from : low ≤ number
  pub before : number < high
  pub filled : (vs : List PlainValue) (fill : PlainValue) → patched is vs fill number ≡ fill

pub few-hole : (low high : ℕ) (is : List PlainValue) → ascend low high is ≡ true → length is + low < high → IsFilled is low high
few-hole low high [] e l = record { number = low; from = omega arith; before = omega arith; filled = λ vs fill. refl }
few-hole low high (int (pos x) ∷ is) e l =
    let p = ascend_parts low high x is e in
    elim (cases_lt low x) [
      | inl less ↦
          record {
            number = low;
            from = omega arith;
            before = let most = p.1 in omega arith;
            filled = λ vs fill. patched-none (int (pos x) ∷ is) vs fill low 0 (none_below-start (int (pos x) ∷ is) low) (above_all x high (int (pos x) ∷ is) low (ascend_from x high x is (omega arith) p.1 p.2) less);
          }
      | inr more ↦
          let from = p.0 in
          let same : x ≡ low = omega arith in
          let rest = few-hole (x + 1) high is p.2 (omega arith) in
          record {
            number = rest.number;
            from = let a = rest.from in omega arith;
            before = rest.before;
            filled = λ vs fill. behind vs fill rest.number (ne_eqb x rest.number (λ s. let a = rest.from in omega arith)) rest.filled;
          }
    ]
  where
    behind : (vs : List PlainValue) (fill : PlainValue) (n : ℕ) → (x == n) ≡ false → ((vs : List PlainValue) (fill : PlainValue) → patched is vs fill n ≡ fill) → patched (int (pos x) ∷ is) vs fill n ≡ fill
    behind [] fill n e h = refl
    behind (v ∷ vs) fill n e h = cond-false _ _ _ e ∙ h vs fill
few-hole low high (i ∷ is) e l = absurd cc
