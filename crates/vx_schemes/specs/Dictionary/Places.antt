-- A number that is among others is found at its place.
use Rattle.std.proofs.Common.{◌≡◌, ◌<◌, ◌+◌, ◌∙◌, ℕ, suc, ℤ, Bool, true, false, not, cond, List, [], ◌∷◌, length, get_or, refl, sym, ap, subst, arith}
use Rattle.std.specs.Ordering.{int_eq}
use Rattle.std.proofs.lemmas.Int.{ints}
use Rattle.std.proofs.lemmas.List.Sums.{sum_by-cons}
use Rattle.vx_stats.specs.Distinct.{times}
use Rattle.vx_schemes.specs.Dictionary.Tree.{code_of}

-- what the place of a number promises
pub record IsHeldAt (numbers : List ℤ) (z : ℤ) (place : ℕ) : Type 0 where
  pub within : place < length numbers
  pub is : (d : ℤ) → get_or numbers place d ≡ z

eq-same : (x y : ℤ) → int_eq x y ≡ true → y ≡ x
eq-same x y h = grind (arith, ints)

times-later : (z w : ℤ) (ws : List ℤ) → int_eq z w ≡ false → times (w ∷ ws) z ≡ times ws z
times-later z w ws h = sum_by-cons (λ x. cond (int_eq z x) 1 0) w ws ∙ ap (λ b. cond b 1 0 + times ws z) h ∙ omega arith

pub place-holds : (numbers : List ℤ) (z : ℤ) → 0 < times numbers z → IsHeldAt numbers z (code_of numbers z)
place-holds [] z h = absurd (omega arith)
place-holds (w ∷ ws) z h = by-test (int_eq z w) refl (λ f. place-holds ws z (subst (λ n. 0 < n) (times-later z w ws f) h))
  where
    here : int_eq z w ≡ true → IsHeldAt (w ∷ ws) z 0
    here e = record { within = omega arith; is = λ d. eq-same z w e }

    later : (k : ℕ) → IsHeldAt ws z k → IsHeldAt (w ∷ ws) z (suc k)
    later k a = record { within = omega (arith, a.within); is = a.is }

    next : (k : ℕ) → suc k ≡ 1 + k
    next k = omega arith

    by-test : (b : Bool) → int_eq z w ≡ b → (int_eq z w ≡ false → IsHeldAt ws z (code_of ws z)) → IsHeldAt (w ∷ ws) z (code_of (w ∷ ws) z)
    by-test true e rest = subst (IsHeldAt (w ∷ ws) z) (ap (λ b. cond (not b) (1 + code_of ws z) 0) (sym e)) (here e)
    by-test false e rest = subst (IsHeldAt (w ∷ ws) z) (next (code_of ws z) ∙ ap (λ b. cond (not b) (1 + code_of ws z) 0) (sym e)) (later (code_of ws z) (rest e))
