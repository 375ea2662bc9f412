-- Answers by the threshold.
use Rattle.std.proofs.Common.{◌≡◌, Bool, true, false, cond, Option, Some, None, refl, sym, subst, inl, inr}
use Rattle.std.specs.Prelude.{◌⊎◌, not, Result, Ok, Err}
use Rattle.std.specs.Ordering.{is_ge}
use Rattle.std.specs.declared.cmp.Ordering.TheVariants.{Less, Equal, Greater}
use Rattle.std.proofs.lemmas.Bool.{cond-true, cond-false}
use Rattle.vx_base.specs.Answers.{Answers, OrMemory}
use Rattle.vx_base.specs.declared.error.VortexError.{VortexError}
use Rattle.vx_base.specs.declared.fraction.Fraction.{Fraction}
use Rattle.vx_base.specs.Fractions.{is_less, fraction_cmp, same_fraction}
use Rattle.vx_scheme.specs.Resolved.{IsResolved}
use Rattle.vx_scheme.specs.declared.estimate.EstimateVerdict.{EstimateVerdict}
use Rattle.vx_scheme.specs.declared.estimate.EstimateVerdict.TheVariants.{Skip, AlwaysUse, Ratio}
use Rattle.vx_schemes_runs.specs.Thresholds.{is_beaten, above}

is_ge-tested : (less same : Bool) → is_ge (cond less Less (cond same Equal Greater)) ≡ not less
is_ge-tested true same = refl
is_ge-tested false true = refl
is_ge-tested false false = refl

-- what doesn't come before in the order isn't less
pub is_ge-fraction_cmp : (x y : Fraction) → is_ge (fraction_cmp x y) ≡ not (is_less x y)
is_ge-fraction_cmp x y = is_ge-tested (is_less x y) (same_fraction x y)

-- ---- a ratio that is a verdict, by the threshold

pub beaten : (t : Option Fraction) (x : Fraction) (verdict : EstimateVerdict) → is_beaten x t ≡ true → Ratio x ≡ verdict → Skip ≡ above t verdict
beaten t x verdict b e = subst (λ v. Skip ≡ above t v) e (sym (cond-true (is_beaten x t) Skip (Ratio x) b))

pub passing : (t : Option Fraction) (x : Fraction) (verdict : EstimateVerdict) → is_beaten x t ≡ false → Ratio x ≡ verdict → Ratio x ≡ above t verdict
passing t x verdict b e = subst (λ v. Ratio x ≡ above t v) e (sym (cond-false (is_beaten x t) Skip (Ratio x) b))

-- ---- such an answer is one that the trait admits

pub above-resolved : (t : Option Fraction) (verdict answer : EstimateVerdict) → answer ≡ above t verdict → IsResolved t verdict answer
above-resolved None Skip answer e = e
above-resolved None AlwaysUse answer e = e
above-resolved None (Ratio r) answer e = e
above-resolved (Some t) Skip answer e = e
above-resolved (Some t) AlwaysUse answer e = e
above-resolved (Some t) (Ratio r) answer e = by_test (is_less t r) refl e
  where
    by_test : (b : Bool) → is_less t r ≡ b → answer ≡ cond (not b) Skip (Ratio r) → (answer ≡ Ratio r) ⊎ ((answer ≡ Skip) × (is_less t r ≡ false))
    by_test true q f = inl f
    by_test false q f = inr (f, q)

-- of a call that takes memory
pub answers-resolved : (t : Option Fraction) (verdict : EstimateVerdict) (answer : Result EstimateVerdict VortexError) → Answers answer (above t verdict) → OrMemory answer (IsResolved t verdict)
answers-resolved t verdict (Ok told) h = above-resolved t verdict told h
answers-resolved t verdict (Err error) h = h
