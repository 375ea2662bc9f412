-- Counts of rows that fit 64 bits.
use Rattle.std.proofs.Common.{◌≡◌, ◌<◌, ◌≤◌, ◌∙◌, ℕ, zero, suc, List, [], ◌∷◌, length, take, cond, refl, sym, ap, arith}
use Rattle.std.specs.Prelude.{Some, None, nat_lt, if◌then◌else◌}
use Rattle.std.proofs.lemmas.Bool.{lt-ltb}

pub take-past : {A : Type 0} (xs : List A) (i : ℕ) → length xs ≤ i → take i xs ≡ xs
take-past [] zero l = refl
take-past [] (suc i) l = refl
take-past (x ∷ xs) zero l = absurd (omega arith)
take-past (x ∷ xs) (suc i) l = ap (λ ys. x ∷ ys) (take-past xs i (omega arith))

-- a count below a limit is the answer
pub counted : (n m limit : ℕ) → n ≡ m → n < limit → Some n ≡ (if nat_lt m limit then Some m else None)
counted n m limit e l = let below : m < limit = omega arith in ap Some e ∙ sym (ap (λ b. cond b (Some m) None) (lt-ltb m limit below))
