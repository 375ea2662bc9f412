-- The verdict of quick packing by the logarithm of the greatest value.
use Rattle.std.proofs.Common.{◌≡◌, ◌∙◌, ◌+◌, ◌-◌, ℕ, zero, suc, ℤ, pos, negsuc, false, Some, None, refl, sym, subst, arith}
use Rattle.std.specs.Prelude.{◌≤ℤ◌, ◌==◌, int_lt, unsigned_abs}
use Rattle.std.proofs.lemmas.Bool.{cond-false, ne_eqb}
use Rattle.std.proofs.lemmas.Int.{ints}
use Rattle.vx_base.specs.declared.fraction.Fraction.{Fraction}
use Rattle.vx_base.specs.declared.ptype.PType.{PType}
use Rattle.vx_base.specs.Digits.{digits}
use Rattle.vx_base.specs.Fractions.{numerator, divisor}
use Rattle.vx_base.specs.Integers.{bits_in}
use Rattle.vx_stats.specs.Erased.{log2_of}
use Rattle.vx_scheme.specs.Scores.{ratio_of}
use Rattle.vx_stats.specs.Stats.{Extremes}
use Rattle.vx_scheme.specs.declared.estimate.EstimateVerdict.TheVariants.{Skip, Ratio}
use Rattle.vx_scheme.proofs.RatioLemmas.{Ratio-parts}
use Rattle.vx_schemes_common.proofs.DigitLemmas.{digits-some}
use Rattle.vx_examples.specs.QuickPacking.{quick_verdict}

none_greater : (low : ℤ) (n : ℕ) → low ≤ℤ negsuc n → int_lt low (pos 0) ≡ false → ⊥
none_greater low n o l = grind (arith, ints)

log-some : (n log : ℕ) → Some log ≡ log2_of (suc n) → log + 1 ≡ digits (suc n)
log-some n log e =
    let some : Some log ≡ Some (digits (suc n) - 1) = e ∙ cond-false (suc n == 0) None (Some (digits (suc n) - 1)) (ne_eqb (suc n) 0 (λ (z : suc n ≡ 0). omega arith)) in
    let same : log ≡ digits (suc n) - 1 = cc in
    omega (arith, same, digits-some (suc n) (omega arith))

log-none : (n : ℕ) → None ≡ log2_of (suc n) → ⊥
log-none n e =
    let none : None ≡ Some (digits (suc n) - 1) = e ∙ cond-false (suc n == 0) None (Some (digits (suc n) - 1)) (ne_eqb (suc n) 0 (λ (z : suc n ≡ 0). omega arith)) in
    cc

-- a logarithm is one less than the digits
module _ (p : PType) (bits : ℕ) (low : ℤ) (l : int_lt low (pos 0) ≡ false) where
  some-verdict : (high : ℤ) (log : ℕ) (x : Fraction) → low ≤ℤ high → Some log ≡ log2_of (bits_in p high) → numerator x ≡ bits → divisor x ≡ log + 1 → Ratio x ≡ ratio_of bits (digits (unsigned_abs high))
  some-verdict (pos zero) log x o e num den = absurd cc
  some-verdict (pos (suc n)) log x o e num den = Ratio-parts x bits (digits (suc n)) num (den ∙ log-some n log e)
  some-verdict (negsuc n) log x o e num den = absurd (none_greater low n o l)

  -- without one the greatest is 0, which has no digits
  none-verdict : (high : ℤ) → low ≤ℤ high → None ≡ log2_of (bits_in p high) → Skip ≡ ratio_of bits (digits (unsigned_abs high))
  unfolding lib.Count.count_leading_zeros
  none-verdict (pos zero) o e = refl
  none-verdict (pos (suc n)) o e = absurd (log-none n e)
  none-verdict (negsuc n) o e = absurd (none_greater low n o l)

-- where no value is negative
not_negative : (bits : ℕ) (e : Extremes) → int_lt e.least (pos 0) ≡ false → ratio_of bits (digits (unsigned_abs e.greatest)) ≡ quick_verdict bits e
not_negative bits e l = sym (cond-false (int_lt e.least (pos 0)) Skip (ratio_of bits (digits (unsigned_abs e.greatest))) l)

pub quick-some : (p : PType) (bits : ℕ) (e f : Extremes) (log : ℕ) (x : Fraction) → e ≡ f → f.least ≤ℤ f.greatest → int_lt e.least (pos 0) ≡ false → Some log ≡ log2_of (bits_in p e.greatest)
    → numerator x ≡ bits → divisor x ≡ log + 1 → Ratio x ≡ quick_verdict bits f
quick-some p bits e f log x same o l is num den =
    let lf : int_lt f.least (pos 0) ≡ false = subst (λ (g : Extremes). int_lt g.least (pos 0) ≡ false) same l in
    let isf : Some log ≡ log2_of (bits_in p f.greatest) = subst (λ (g : Extremes). Some log ≡ log2_of (bits_in p g.greatest)) same is in
    some-verdict p bits f.least lf f.greatest log x o isf num den ∙ not_negative bits f lf

pub quick-none : (p : PType) (bits : ℕ) (e f : Extremes) → e ≡ f → f.least ≤ℤ f.greatest → int_lt e.least (pos 0) ≡ false → None ≡ log2_of (bits_in p e.greatest) → Skip ≡ quick_verdict bits f
quick-none p bits e f same o l is =
    let lf : int_lt f.least (pos 0) ≡ false = subst (λ (g : Extremes). int_lt g.least (pos 0) ≡ false) same l in
    let isf : None ≡ log2_of (bits_in p f.greatest) = subst (λ (g : Extremes). None ≡ log2_of (bits_in p g.greatest)) same is in
    none-verdict p bits f.least lf f.greatest o isf ∙ not_negative bits f lf
