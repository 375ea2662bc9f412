-- The score of two sizes, by what 128 bits count of them.
use Rattle.std.proofs.Common.{◌≡◌, ◌<◌, ◌^◌, ◌-◌, ℕ, zero, suc, Some, ap, sym, ◌∙◌, arith, zero-lt-suc}
use Rattle.std.specs.Prelude.{min}
use Rattle.std.proofs.lemmas.Bool.{cond-false, lt-leb}
use Rattle.vx_base.specs.Fractions.{numerator, divisor}
use Rattle.vx_base.specs.declared.fraction.Fraction.{Fraction}
use Rattle.vx_scheme.proofs.RatioLemmas.{same_parts}
use Rattle.vx_compressor.specs.declared.choice.Score.TheVariants.{Finite}
use Rattle.vx_compressor.specs.Cascade.{size_score}

-- a smaller tree's score is the fraction of the two sizes
finite_score-exact : (x : Fraction) (p t : ℕ) → numerator x ≡ p → divisor x ≡ t → t < p → Some (Finite x) ≡ size_score p t
finite_score-exact x p zero n d less = absurd (omega (arith, d, x.positive))
finite_score-exact x p (suc t) n d less =
    ap (λ y. Some (Finite y)) (same_parts x (record { num = p; den = suc t; positive = zero-lt-suc t }) n d)
    ∙ sym (cond-false _ _ _ (lt-leb p (suc t) less))

pub finite_score : (x : Fraction) (p t before after : ℕ) → before ≡ min p (2 ^ 128 - 1) → after ≡ min t (2 ^ 128 - 1) → p < 2 ^ 64 → after < before → numerator x ≡ before → divisor x ≡ after → Some (Finite x) ≡ size_score p t
finite_score x p t before after b a small less n d = finite_score-exact x p t (omega (arith, n, b, small)) (omega (arith, d, a, b, less, small)) (omega (arith, a, b, less, small))
