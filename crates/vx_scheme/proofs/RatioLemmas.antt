-- A fraction is its two numbers.
use Rattle.std.specs.Prelude.{◌≡◌, ◌<◌, ℕ, zero, suc}
use Rattle.std.proofs.Common.{ap, subst, arith, zero-lt-suc}
use Rattle.std.proofs.Props.{props}
use Rattle.vx_base.specs.Fractions.{numerator, divisor}
use Rattle.vx_base.specs.declared.fraction.Fraction.{Fraction}
use Rattle.vx_scheme.specs.Scores.{ratio_of}
use Rattle.vx_scheme.specs.declared.estimate.EstimateVerdict.TheVariants.{Ratio}

abbrev over : (n d : ℕ) → 0 < d → Fraction
over n d p = record { num = n; den = d; positive = p }

positive-alike : (d : ℕ) (p q : 0 < d) → p ≡ q
positive-alike d p q = let prop : IsProp (0 < d) = hlevel props in prop p q

pub same_parts : (x y : Fraction) → numerator x ≡ numerator y → divisor x ≡ divisor y → x ≡ y
same_parts x y e f =
    subst (λ d. (q : 0 < d) → x ≡ over y.num d q) f
    (λ q. subst (λ n. x ≡ over n x.den q) e (ap (over x.num x.den) (positive-alike x.den x.positive q)))
    y.positive

-- the ratio of a fraction with these parts
pub Ratio-parts : (x : Fraction) (n d : ℕ) → numerator x ≡ n → divisor x ≡ d → Ratio x ≡ ratio_of n d
Ratio-parts x n zero e f = absurd (omega (arith, f, x.positive))
Ratio-parts x n (suc d) e f = ap Ratio (same_parts x (over n (suc d) (zero-lt-suc d)) e f)
