-- Patches whose indices are the rows that pass a test, and whose values are a function of those rows.
use Rattle.std.proofs.Common.{◌≡◌, ◌≢◌, ◌<◌, ◌≤◌, ◌+◌, ◌∙◌, ℕ, zero, suc, pos, Bool, true, false, List, ◌∷◌, map, cond, refl, ap, arith, inl, inr}
use Rattle.std.specs.Prelude.{filter}
use Rattle.std.specs.List.{range_with_len}
use Rattle.std.proofs.lemmas.Bool.{cond-true, cond-false, eq-eqb, ne_eqb, cases_eq}
use Rattle.vx_base.specs.PlainValue.{PlainValue, int}
use Rattle.vx_model.specs.Rows.{patched}

module _ (g : ℕ → PlainValue) (fill : PlainValue) (i : ℕ) where
  -- what stands at row i, by the rows that are picked
  abbrev pub picked_at : List ℕ → PlainValue
  picked_at rows = patched (map int (map pos rows)) (map g rows) fill i

  skipped : (b : Bool) (start : ℕ) (rest : List ℕ) (v : PlainValue) → start ≢ i → picked_at rest ≡ v → picked_at (cond b (start ∷ rest) rest) ≡ v
  skipped true start rest v other e = cond-false _ _ _ (ne_eqb start i other) ∙ e
  skipped false start rest v other e = e

  found : (b : Bool) (start : ℕ) (rest : List ℕ) → start ≡ i → picked_at rest ≡ fill → picked_at (cond b (start ∷ rest) rest) ≡ cond b (g start) fill
  found true start rest same e = cond-true _ _ _ (eq-eqb start i same)
  found false start rest same e = e

  module _ (p : ℕ → Bool) where
    picked-before : (start n : ℕ) → i < start → picked_at (filter p (range_with_len start n)) ≡ fill
    picked-before start zero h = refl
    picked-before start (suc n) h = skipped (p start) start (filter p (range_with_len (start + 1) n)) fill (λ q. omega arith) (picked-before (start + 1) n (omega arith))

    pub picked-filter : (start n : ℕ) → start ≤ i → i < start + n → picked_at (filter p (range_with_len start n)) ≡ cond (p i) (g i) fill
    picked-filter start zero a b = absurd (omega arith)
    picked-filter start (suc n) a b =
        elim (cases_eq start i) [
          | inl same ↦
              found (p start) start (filter p (range_with_len (start + 1) n)) same (picked-before (start + 1) n (omega arith)) ∙ ap (λ k. cond (p k) (g k) fill) same
          | inr other ↦
              skipped (p start) start (filter p (range_with_len (start + 1) n)) (cond (p i) (g i) fill) other (picked-filter (start + 1) n (omega arith) (omega arith))
        ]
