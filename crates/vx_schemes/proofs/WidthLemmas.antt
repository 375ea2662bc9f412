-- Widths: the kernel's histogram is that of the definitions, and when differences from the least value are as wide as the
-- greatest.
use Rattle.std.proofs.Common.{◌≡◌, ◌+◌, ℕ, ℤ, Bool, List, map, ◌∙◌, ◌<◌, ◌-◌, zero, suc, pos, negsuc, true, false, Some, None, refl, sym, ap, inl, inr, arith}
use Rattle.std.specs.Prelude.{◌==◌, count_by, ◌≤ℤ◌, ◌-ℤ◌, ◌&&◌, ◌||◌, not, nat_lt, nat_le, int_lt, unsigned_abs}
use Rattle.std.proofs.lemmas.List.FromFn.{fill_by_all}
use Rattle.vx_base.specs.declared.ptype.PType.{PType}
use Rattle.vx_base.specs.Digits.{digits}
use Rattle.vx_base.specs.Integers.{bits_of, bits_in}
use Rattle.vx_base.specs.Packed.{kept_rows}
use Rattle.vx_blocks.specs.Histogram.{IsHistogram}
use Rattle.vx_schemes.specs.Widths.{widths_of}
use Rattle.std.specs.Ordering.{int_eq}
use Rattle.std.proofs.lemmas.Bool.{cases_lt, cond-false, ne_eqb}
use Rattle.std.proofs.lemmas.Bool.Decides.{nat_tests}
use Rattle.std.proofs.lemmas.Int.{ints}
use Rattle.vx_base.specs.declared.fraction.Fraction.{Fraction}
use Rattle.vx_base.specs.Fractions.{numerator, divisor}
use Rattle.vx_stats.specs.Erased.{log2_of}
use Rattle.vx_scheme.specs.Scores.{ratio_of}
use Rattle.vx_stats.specs.Stats.{Extremes}
use Rattle.vx_scheme.specs.declared.estimate.EstimateVerdict.TheVariants.{Skip, Ratio}
use Rattle.vx_scheme.proofs.RatioLemmas.{Ratio-parts}
use Rattle.vx_schemes_common.proofs.DigitLemmas.{digits-some}
use Rattle.vx_schemes.specs.FrameOfReference.Meaning.{span, is_as_wide, gains_nothing, for_verdict}

pub widths_of-is : (p : PType) (xs : List ℤ) (valid : List Bool) (counts : List ℕ) → IsHistogram (bits_of p) (kept_rows 64 (map (bits_in p) xs) valid) counts → counts ≡ widths_of p xs valid
unfolding widths_of
widths_of-is p xs valid counts h = fill_by_all (λ w. count_by (λ row. digits row == w) (kept_rows 64 (map (bits_in p) xs) valid)) counts (bits_of p + 1) 0 h.size h.each

abbrev extremes : ℤ → ℤ → Extremes
extremes low high = record { least = low; greatest = high }

below-is : (d w : ℕ) → 0 < d → nat_lt (d - 1) w ≡ nat_le d w
below-is d w h = grind (arith, nat_tests)

not_zero : (n : ℕ) → int_eq (pos (suc n)) (pos 0) ≡ false
not_zero n = grind (arith, nat_tests, ints)

-- where the logarithm of the greatest is known
pub wide-some : (p : PType) (low high : ℤ) (s log : ℕ) → low ≤ℤ high → int_lt low (pos 0) ≡ false → Some log ≡ log2_of (bits_in p high) → pos s ≡ high -ℤ low → nat_lt log (digits s) ≡ is_as_wide (extremes low high)
wide-some p low (pos zero) s log o l e is = absurd cc
wide-some p low (pos (suc n)) s log o l e is =
    let some : Some log ≡ Some (digits (suc n) - 1) = e ∙ cond-false (suc n == 0) None (Some (digits (suc n) - 1)) (ne_eqb (suc n) 0 (λ (z : suc n ≡ 0). omega arith)) in
    let same : log ≡ digits (suc n) - 1 = cc in
    let spans : s ≡ span (extremes low (pos (suc n))) = ap unsigned_abs is in
    ap (λ k. nat_lt k (digits s)) same ∙ below-is (digits (suc n)) (digits s) (digits-some (suc n) (omega arith)) ∙ ap (λ k. nat_le (digits (suc n)) (digits k)) spans
    ∙ (λ i. (not (sym l i) && not (sym (not_zero n) i)) && nat_le (digits (suc n)) (digits (span (extremes low (pos (suc n))))))
wide-some p low (negsuc n) s log o l e is = absurd (negative low o l)
  where
    negative : (z : ℤ) → z ≤ℤ negsuc n → int_lt z (pos 0) ≡ false → ⊥
    negative z o l = grind (arith, ints)

-- ---- the ratio where there is a gain
no_gain : (zero wide : Bool) (n : ℕ) → n ≡ 0 → (zero || (n == 0) || wide) ≡ true
no_gain true wide n h = refl
no_gain false wide n h = rw h refl

-- where there is a gain the span isn't 0, so it has a digit
pub span-some : (e : Extremes) (s : ℕ) → gains_nothing e ≡ false → pos s ≡ e.greatest -ℤ e.least → 0 < digits s
span-some e s gain is = elim (cases_lt 0 s) [
  | inl some ↦ digits-some s some
  | inr none ↦
      let nothing : span e ≡ 0 = let zero : s ≡ 0 = omega arith in sym (ap unsigned_abs is) ∙ zero in
      absurd (let no : true ≡ false = sym (no_gain (int_eq e.least (pos 0)) (is_as_wide e) (span e) nothing) ∙ gain in cc)
]

pub verdict-ratio : (bits : ℕ) (e : Extremes) (s : ℕ) (x : Fraction) → gains_nothing e ≡ false → pos s ≡ e.greatest -ℤ e.least → numerator x ≡ bits → divisor x ≡ digits s → Ratio x ≡ for_verdict bits e
verdict-ratio bits e s x gain is num den = Ratio-parts x bits (digits (span e)) num (den ∙ ap digits (ap unsigned_abs is)) ∙ sym (cond-false (gains_nothing e) Skip (ratio_of bits (digits (span e))) gain)
