-- The words of a seed, one output at a time.
use Rattle.std.proofs.Common.{◌≡◌, ◌<◌, ◌≤◌, ◌+◌, ◌-◌, ℕ, zero, suc, List, [], ◌∷◌, ◌++◌, length, refl, sym, ap, ◌∙◌, append_assoc, arith}
use Rattle.std.proofs.lemmas.List.{append-nil}
use Rattle.rand_core.specs.Steps.{first_words}

module _ {S : Type 0} (step : S → ℕ × S) where
  pub length-first_words : (k : ℕ) (s : S) → length (first_words step k s) ≡ k
  unfolding first_words
  length-first_words zero s = refl
  length-first_words (suc k) s = ap suc (length-first_words k (step s).1)

  first_words-suc : (n k : ℕ) (s : S) → n ≡ suc k → first_words step n s ≡ (step s).0 ∷ first_words step k (step s).1
  unfolding first_words
  first_words-suc n k s e = rw e refl

  -- the outputs so far, and then those that are left
  pub first_words-next : (n i : ℕ) (done : List ℕ) (s t : S) (w : ℕ) → i < n → (w, t) ≡ step s → done ++ first_words step (n - i) s ≡ (done ++ w ∷ []) ++ first_words step (n - (i + 1)) t
  first_words-next n i done s t w l e =
      ap (λ ws. done ++ ws) (first_words-suc (n - i) (n - (i + 1)) s (omega arith) ∙ ap (λ (p : ℕ × S). p.0 ∷ first_words step (n - (i + 1)) p.1) (sym e))
      ∙ sym (append_assoc done (w ∷ []) (first_words step (n - (i + 1)) t))

  -- where none is left, they are all
  pub first_words-end : (n i : ℕ) (done : List ℕ) (s first : S) → n ≤ i → done ++ first_words step (n - i) s ≡ first_words step n first → done ≡ first_words step n first
  unfolding first_words
  first_words-end n i done s first l e = let none : n - i ≡ 0 = omega arith in let all = rw none at e in sym (append-nil done) ∙ all
