-- The number of binary digits: the least k with n < 2^k, and of 64 bits those behind the leading zeros.
use Rattle.std.proofs.Common.{◌≡◌, ℕ, zero, suc, ◌+◌, ◌-◌, ◌^◌, ◌<◌, ◌≤◌, Bool, true, false, refl, ◌∙◌, sym, ap, subst, arith, inl, inr, lit<}
use Rattle.std.specs.Prelude.{nat_lt}
use Rattle.std.proofs.Math.Nat as nat
use Rattle.std.proofs.lemmas.Bool.{cases_lt}
use Rattle.std.proofs.lemmas.Bool.Decides.{nat_tests}
use Rattle.std.proofs.lemmas.Nat.{leading_length}
use Rattle.std.specs.Int.Count.{count_leading_zeros}
use Rattle.vx_base.specs.Digits.{digits, first_from}

-- a number whose test is known to be one of the two
tested : (p : ℕ → Bool) (k more : ℕ) (b : Bool) → p k ≡ b → first_from p k (suc more) ≡ elim b as (λ v. ℕ) [ true ↦ k | false ↦ first_from p (k + 1) more ]
tested p k more b e = ap (λ c. elim c as (λ v. ℕ) [ true ↦ k | false ↦ first_from p (k + 1) more ]) e

-- where the last of the numbers passes, so does the one that is found
first_from-passes : (p : ℕ → Bool) (k more : ℕ) → p (k + more) ≡ true → p (first_from p k more) ≡ true
first_from-passes p k zero h = subst (λ j. p j ≡ true) (omega arith) h
first_from-passes p k (suc more) h = by_test (p k) refl (first_from-passes p (k + 1) more (subst (λ j. p j ≡ true) (omega arith) h))
  where
    by_test : (b : Bool) → p k ≡ b → p (first_from p (k + 1) more) ≡ true → p (first_from p k (suc more)) ≡ true
    by_test true e later = ap p (tested p k more true e) ∙ e
    by_test false e later = ap p (tested p k more false e) ∙ later

-- none before it passes
first_from-first : (p : ℕ → Bool) (k more j : ℕ) → k ≤ j → p j ≡ true → first_from p k more ≤ j
first_from-first p k zero j h e = h
first_from-first p k (suc more) j h passes = by_test (p k) refl (λ later. first_from-first p (k + 1) more j later passes)
  where
    by_test : (b : Bool) → p k ≡ b → (k + 1 ≤ j → first_from p (k + 1) more ≤ j) → first_from p k (suc more) ≤ j
    by_test true e later = rw (tested p k more true e) h
    by_test false e later = elim (cases_lt k j) [
      | inl lt ↦ rw (tested p k more false e) (later (omega arith))
      | inr le ↦ let same : k ≡ j = omega arith in absurd (let no : true ≡ false = sym passes ∙ ap p (sym same) ∙ e in cc)
    ]

below_power : (n : ℕ) → n < 2 ^ n
below_power zero = omega arith
below_power (suc n) = omega (arith, below_power n, nat.pow-suc 2 n)

pub digits-hold : (n : ℕ) → n < 2 ^ digits n
digits-hold n =
    let below : n < 2 ^ n = below_power n in
    let start : 0 + n ≡ n = omega arith in
    let test : nat_lt n (2 ^ (0 + n)) ≡ true = rw start (grind (arith, nat_tests)) in
    let passes : nat_lt n (2 ^ digits n) ≡ true = first_from-passes (λ k. nat_lt n (2 ^ k)) 0 n test in
    grind (arith, nat_tests)

-- the digits of a number are at most k exactly where it is below 2^k
pub digits-le : (n k : ℕ) → n < 2 ^ k → digits n ≤ k
digits-le n k h =
    let test : nat_lt n (2 ^ k) ≡ true = grind (arith, nat_tests) in
    first_from-first (λ j. nat_lt n (2 ^ j)) 0 n k (omega arith) test

pub le-digits : (n k : ℕ) → digits n ≤ k → n < 2 ^ k
le-digits n k few = nat.lt_of_lt_of_le (digits-hold n) (nat.pow-le-pow_right {n = 2} (lit< tt) few)

-- of a number of 64 bits they are those behind its leading zeros
pub digits-leading : (n : ℕ) → n < 2 ^ 64 → digits n ≡ 64 - count_leading_zeros 64 n
digits-leading n h =
    let m = leading_length 64 n h in
    let most : digits n ≤ m.0 = digits-le n m.0 m.2 in
    elim (cases_lt (digits n) m.0) [
      | inl fewer ↦
          let power : 2 ^ suc (digits n) ≤ 2 ^ m.0 = nat.pow-le-pow_right {n = 2} (lit< tt) (omega arith) in
          absurd (omega (arith, m.3, digits-hold n, power, nat.pow-suc 2 (digits n)))
      | inr least ↦ omega (arith, m.1)
    ]

pub ruleset leading_digits = (digits-leading)
