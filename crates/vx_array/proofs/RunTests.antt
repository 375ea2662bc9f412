-- A test of the rows of runs: some row passes exactly where some run's value does, and so do all rows.
use Rattle.std.proofs.Common.{◌≡◌, inl, inr, ◌<◌, ◌≤◌, ◌-◌, ◌^◌, ◌∙◌, ℕ, zero, suc, List, [], ◌∷◌, length, refl, ap, sym, arith, Bool, true, false}
use Rattle.std.specs.Prelude.{◌&&◌, ◌||◌, not}
use Rattle.std.specs.List.{list_all, list_any}
use Rattle.std.proofs.lemmas.Bool.{cases_lt}
use Rattle.vx_base.specs.PlainValue.{PlainValue}
use Rattle.vx_model.specs.Rows.{rows, row_at, offset_at}
use Rattle.vx_model.specs.Tree.{Tree, run_end}
use Rattle.vx_model.specs.WellFormed.{WellFormed}
use Rattle.vx_model.proofs.RunEndLemmas.{length-run_end, row_at-run_end, run_value-some, row_at-run, end-between, ends-rise}

-- ---- a row that passes, or none

pub record SomeRow (test : PlainValue → Bool) (vs : List PlainValue) : Type 0 where
  pub place : ℕ
  pub within : place < length vs
  pub is_so : test (row_at vs place) ≡ true

or-true : (b : Bool) → (b || true) ≡ true
or-true true = refl
or-true false = refl

module _ (test : PlainValue → Bool) where
  pub row-found : (vs : List PlainValue) (i : ℕ) → i < length vs → test (row_at vs i) ≡ true → list_any test vs ≡ true
  row-found [] i l e = absurd (omega arith)
  row-found (v ∷ vs) zero l e = rw e refl
  row-found (v ∷ vs) (suc i) l e = rw (row-found vs i (omega arith) e) (or-true (test v))

  some-behind : (v : PlainValue) (vs : List PlainValue) → SomeRow test vs → SomeRow test (v ∷ vs)
  some-behind v vs rest = record { place = suc rest.place; within = let l = rest.within in omega arith; is_so = rest.is_so }

  some-first : (v : PlainValue) (vs : List PlainValue) (b : Bool) → test v ≡ b → (b || list_any test vs) ≡ true → (list_any test vs ≡ true → SomeRow test vs) → SomeRow test (v ∷ vs)
  some-first v vs true e h rest = record { place = 0; within = omega arith; is_so = e }
  some-first v vs false e h rest = some-behind v vs (rest h)

  pub row-some : (vs : List PlainValue) → list_any test vs ≡ true → SomeRow test vs
  row-some [] h = absurd cc
  row-some (v ∷ vs) h = some-first v vs (test v) refl h (row-some vs)

-- a truth value that holds exactly where another does
pub both_ways : (b c : Bool) → (b ≡ true → c ≡ true) → (c ≡ true → b ≡ true) → b ≡ c
both_ways true true f g = refl
both_ways true false f g = sym (f refl)
both_ways false true f g = g refl
both_ways false false f g = refl

-- ---- runs

-- each run has a row
pub any-run_end : (test : PlainValue → Bool) (ends values : Tree) → WellFormed (run_end ends values) → list_any test (rows (run_end ends values)) ≡ list_any test (rows values)
any-run_end test ends values h = both_ways _ _ there back
  where
    there : list_any test (rows (run_end ends values)) ≡ true → list_any test (rows values) ≡ true
    there e =
        let s = row-some test (rows (run_end ends values)) e in
        let l : s.place < offset_at (rows ends) (length (rows ends) - 1) = let own = length-run_end ends values in let w = s.within in omega arith in
        let v = run_value-some (rows ends) (rows values) s.place h.2.lengths l in
        row-found test (rows values) v.place v.within (sym (ap test (row_at-run_end ends values s.place l ∙ v.is)) ∙ s.is_so)

    back : list_any test (rows values) ≡ true → list_any test (rows (run_end ends values)) ≡ true
    back e =
        let s = row-some test (rows values) e in
        let k = s.place in
        let here : k < length (rows ends) = let same = h.2.lengths in let w = s.within in omega arith in
        let end = end-between 1 (2 ^ 64) (rows ends) k h.2.rising here in
        let some = end.0 in
        let i = offset_at (rows ends) k - 1 in
        let most : offset_at (rows ends) k ≤ offset_at (rows ends) (length (rows ends) - 1) =
        elim (cases_lt k (length (rows ends) - 1)) [
          | inl less ↦ let rising = ends-rise 1 (2 ^ 64) (rows ends) k (length (rows ends) - 1) h.2.rising less (omega arith) in omega arith
          | inr more ↦ let same : k ≡ length (rows ends) - 1 = omega arith in let there = ap (offset_at (rows ends)) same in omega arith
        ] in
        let own = row_at-run ends values h i k here (λ p. let rising = ends-rise 1 (2 ^ 64) (rows ends) (k - 1) k h.2.rising (omega arith) here in omega arith) (omega arith) in
        row-found test (rows (run_end ends values)) i (let len = length-run_end ends values in omega arith) (ap test own ∙ s.is_so)

-- all pass where none fails
not-all : (test : PlainValue → Bool) (vs : List PlainValue) → list_all test vs ≡ not (list_any (λ v. not (test v)) vs)
not-all test [] = refl
not-all test (v ∷ vs) = first (test v) (list_all test vs) (list_any (λ u. not (test u)) vs) (not-all test vs)
  where
    first : (b c d : Bool) → c ≡ not d → (b && c) ≡ not (not b || d)
    first true c d e = e
    first false c d e = refl

pub all-run_end : (test : PlainValue → Bool) (ends values : Tree) → WellFormed (run_end ends values) → list_all test (rows (run_end ends values)) ≡ list_all test (rows values)
all-run_end test ends values h =
    not-all test (rows (run_end ends values)) ∙ ap not (any-run_end (λ v. not (test v)) ends values h) ∙ sym (not-all test (rows values))
