-- The ratio of differences: what a verdict answers, and where none is told.
use Rattle.std.proofs.Common.{◌≡◌, ◌<◌, ◌∙◌, ℕ, zero, suc, true, false, Option, Some, refl, sym, arith}
use Rattle.std.specs.Prelude.{◌==◌}
use Rattle.std.proofs.lemmas.Bool.{cond-false, ne_eqb}
use Rattle.vx_base.specs.declared.fraction.Fraction.{Fraction}
use Rattle.vx_base.specs.Digits.{digits}
use Rattle.vx_scheme.specs.declared.estimate.EstimateVerdict.TheVariants.{Skip, Ratio}
use Rattle.vx_schemes_runs.specs.Delta.Meaning.{delta_ratio, delta_verdict}
use Rattle.vx_schemes_runs.specs.Thresholds.{is_beaten, above}
use Rattle.vx_schemes_runs.proofs.ThresholdLemmas.{beaten, passing}

-- ---- verdicts

pub verdict-below : (least : Fraction) (len bits span : ℕ) (x : Fraction) → (span ≡ 0 → ⊥) → Ratio x ≡ delta_ratio len bits (digits span) → is_beaten x (Some least) ≡ true → Skip ≡ delta_verdict least len bits span
verdict-below least len bits span x some e below =
    beaten (Some least) x (delta_ratio len bits (digits span)) below e ∙ sym (cond-false (span == 0) Skip (above (Some least) (delta_ratio len bits (digits span))) (ne_eqb span 0 some))

pub verdict-above : (least : Fraction) (len bits span : ℕ) (x : Fraction) → (span ≡ 0 → ⊥) → Ratio x ≡ delta_ratio len bits (digits span) → is_beaten x (Some least) ≡ false → Ratio x ≡ delta_verdict least len bits span
verdict-above least len bits span x some e more =
    passing (Some least) x (delta_ratio len bits (digits span)) more e ∙ sym (cond-false (span == 0) Skip (above (Some least) (delta_ratio len bits (digits span))) (ne_eqb span 0 some))

-- all spreads are skipped where each above 0 is
pub skipped-all : (t : Option Fraction) (least : Fraction) (len bits span : ℕ) → (0 < span → above t (delta_verdict least len bits span) ≡ Skip) → above t (delta_verdict least len bits span) ≡ Skip
skipped-all t least len bits zero h = refl
skipped-all t least len bits (suc n) h = h (omega arith)
