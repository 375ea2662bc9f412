-- A test of the numbers from `first` to `last`.
use Rattle.std.proofs.Common.{◌≡◌, ◌∙◌, inl, inr, ◌<◌, ◌≤◌, ◌+◌, ◌-◌, ℕ, zero, suc, Bool, true, false, refl, sym, ap, arith}
use Rattle.std.specs.Prelude.{◌&&◌}
use Rattle.std.specs.List.{list_all, range_with_len}
use Rattle.std.proofs.lemmas.Bool.{and_parts, and_from, cases_lt, false≢true}

module _ (p : ℕ → Bool) where
  pub range-passes : (start n : ℕ) → ((i : ℕ) → start ≤ i → i < start + n → p i ≡ true) → list_all p (range_with_len start n) ≡ true
  range-passes start zero h = refl
  range-passes start (suc n) h = and_from _ _ (h start (omega arith) (omega arith)) (range-passes (start + 1) n (λ i k l. h i (omega arith) (omega arith)))

  pub range-holds : (start n i : ℕ) → list_all p (range_with_len start n) ≡ true → start ≤ i → i < start + n → p i ≡ true
  range-holds start zero i h k l = absurd (omega arith)
  range-holds start (suc n) i h k l =
      let both = and_parts (p start) (list_all p (range_with_len (start + 1) n)) h in
      elim (cases_lt start i) [
        | inl after ↦ range-holds (start + 1) n i both.1 (omega arith) (omega arith)
        | inr here ↦ (let same : i ≡ start = omega arith in ap p same ∙ both.0)
      ]

  abbrev all_between : ℕ → ℕ → Bool
  all_between first last = list_all p (range_with_len first (last - first + 1))

  pub all-pass_between : (first last : ℕ) → first ≤ last → ((i : ℕ) → first ≤ i → i ≤ last → p i ≡ true) → all_between first last ≡ true
  all-pass_between first last l h = range-passes first (last - first + 1) (λ i k m. h i k (omega arith))

  pub holds-between : (first last i : ℕ) → all_between first last ≡ true → first ≤ i → i ≤ last → p i ≡ true
  holds-between first last i h k l = range-holds first (last - first + 1) i h k (omega arith)

  pub one-fails : (first last i : ℕ) → first ≤ i → i ≤ last → p i ≡ false → all_between first last ≡ false
  one-fails first last i k l e = pick (all_between first last) refl
    where
      pick : (b : Bool) → all_between first last ≡ b → all_between first last ≡ false
      pick false h = h
      pick true h = absurd (false≢true (sym e ∙ holds-between first last i h k l))

  -- no number lies between the two
  pub two-pass : (first last : ℕ) → first ≤ last → last - first ≤ 1 → p first ≡ true → p last ≡ true → all_between first last ≡ true
  two-pass first last l near a b = all-pass_between first last l each
    where
      each : (i : ℕ) → first ≤ i → i ≤ last → p i ≡ true
      each i k m =
          elim (cases_lt first i) [
            | inl after ↦ (let same : i ≡ last = omega arith in ap p same ∙ b)
            | inr here ↦ (let same : i ≡ first = omega arith in ap p same ∙ a)
          ]

  -- both halves have the middle
  pub two-halves : (first middle last : ℕ) → first ≤ middle → middle ≤ last → all_between first last ≡ (all_between first middle && all_between middle last)
  two-halves first middle last k l = pick (all_between first last) (all_between first middle) (all_between middle last) refl refl refl
    where
      by_half : all_between first middle ≡ true → all_between middle last ≡ true → (i : ℕ) → first ≤ i → i ≤ last → p i ≡ true
      by_half a b i x y =
          elim (cases_lt middle i) [
            | inl after ↦ holds-between middle last i b (omega arith) y
            | inr before ↦ holds-between first middle i a x before
          ]

      pick : (w a b : Bool) → all_between first last ≡ w → all_between first middle ≡ a → all_between middle last ≡ b → w ≡ (a && b)
      pick true a b h x y =
          sym (and_from a b (sym x ∙ all-pass_between first middle k (λ i m n. holds-between first last i h m (omega arith)))
          (sym y ∙ all-pass_between middle last l (λ i m n. holds-between first last i h (omega arith) n)))
      pick false true true h x y = absurd (false≢true (sym h ∙ all-pass_between first last (omega arith) (by_half x y)))
      pick false true false h x y = refl
      pick false false b h x y = refl
