-- A value of 9 of 10 rows leaves few others, and so few runs: where runs are short there is no such value.
use Rattle.std.proofs.Common.{◌≡◌, ◌≤◌, ◌+◌, ◌*◌, ◌/◌, ℕ, ℤ, Bool, true, false, cond, List, [], ◌∷◌, length, refl, sym, ap, subst, arith}
use Rattle.std.specs.Prelude.{◌==◌}
use Rattle.std.specs.Ordering.{int_eq}
use Rattle.std.proofs.lemmas.Bool.{cond-false, ne_eqb}
use Rattle.std.proofs.lemmas.Int.{ints}
use Rattle.std.proofs.lemmas.Nat.{le-div}
use Rattle.vx_stats.specs.Distinct.{times}
use Rattle.vx_stats.specs.Stats.{runs_after, run_count}
use Rattle.vx_stats.proofs.DistinctLemmas.{times-next}

-- two unequal neighbours aren't both the number
changed : (z w x : ℤ) → cond {A = ℕ} (int_eq w x) 0 1 + 2 * cond {A = ℕ} (int_eq z x) 1 0 + cond {A = ℕ} (int_eq z x) 0 1 ≤ 2 + cond {A = ℕ} (int_eq z w) 0 1
changed z w x = by_tests (int_eq w x) (int_eq z x) (int_eq z w) refl refl refl
  where
    by_tests : (a b c : Bool) → int_eq w x ≡ a → int_eq z x ≡ b → int_eq z w ≡ c → cond {A = ℕ} a 0 1 + 2 * cond {A = ℕ} b 1 0 + cond {A = ℕ} b 0 1 ≤ 2 + cond {A = ℕ} c 0 1
    by_tests true true c d e f = omega arith
    by_tests true false c d e f = omega arith
    by_tests false true true d e f = absurd (grind (arith, ints))
    by_tests false true false d e f = omega arith
    by_tests false false c d e f = omega arith

runs_after-few : (z w : ℤ) (zs : List ℤ) → runs_after w zs + 2 * times zs z ≤ 2 * length zs + cond {A = ℕ} (int_eq z w) 0 1
runs_after-few z w [] = omega arith
runs_after-few z w (x ∷ xs) = omega (arith, runs_after-few z x xs, times-next z x xs, changed z w x)

-- at most 2 * others + 1 runs
pub run_count-few : (zs : List ℤ) (z : ℤ) → run_count zs + 2 * times zs z ≤ 2 * length zs + 1
run_count-few [] z = omega arith
run_count-few (x ∷ xs) z = by_test (int_eq z x) refl
  where
    by_test : (b : Bool) → int_eq z x ≡ b → run_count (x ∷ xs) + 2 * times (x ∷ xs) z ≤ 2 * length (x ∷ xs) + 1
    by_test true e = omega (arith, runs_after-few z x xs, times-next z x xs, ap (λ b. cond {A = ℕ} b 1 0) e, ap (λ b. cond {A = ℕ} b 0 1) e)
    by_test false e = omega (arith, runs_after-few z x xs, times-next z x xs, ap (λ b. cond {A = ℕ} b 1 0) e, ap (λ b. cond {A = ℕ} b 0 1) e)

-- 20 values or more, 9 of 10 of them equal, have an average run length of at least 4
pub runs-long : (zs : List ℤ) (z : ℤ) → 20 ≤ length zs → 9 * length zs ≤ 10 * times zs z → 4 ≤ cond (length zs == 0) 0 (length zs / run_count zs)
runs-long [] z many nine = absurd (omega (arith, many))
runs-long (x ∷ xs) z many nine =
    let four : 4 ≤ length (x ∷ xs) / run_count (x ∷ xs) = le-div 4 (length (x ∷ xs)) (run_count (x ∷ xs)) (omega arith) (omega (arith, many, nine, run_count-few (x ∷ xs) z)) in
    subst (λ n. 4 ≤ n) (sym (cond-false (length (x ∷ xs) == 0) 0 _ (ne_eqb (length (x ∷ xs)) 0 (λ (e : length (x ∷ xs) ≡ 0). omega arith)))) four
