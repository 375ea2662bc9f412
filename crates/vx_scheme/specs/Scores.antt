-- The ratios of scores and of verdicts.
use Rattle.std.specs.Prelude.{ℕ, zero, suc, Option, Some, None}
use Rattle.std.proofs.Common.{zero-lt-suc}
use Rattle.vx_base.specs.declared.fraction.Fraction.{Fraction}
use Rattle.vx_scheme.specs.declared.estimate.EstimateScore.{EstimateScore}
use Rattle.vx_scheme.specs.declared.estimate.EstimateScore.TheVariants.{FiniteCompression, ZeroBytes}
use Rattle.vx_scheme.specs.declared.estimate.EstimateVerdict.{EstimateVerdict}
use Rattle.vx_scheme.specs.declared.estimate.EstimateVerdict.TheVariants.{Skip, Ratio}

-- None where no bytes are left
abbrev pub finite_of : EstimateScore → Option Fraction
finite_of (FiniteCompression ratio) = Some ratio
finite_of ZeroBytes = None

-- n / d; Skip where d is 0
abbrev pub ratio_of : ℕ → ℕ → EstimateVerdict
ratio_of n zero = Skip
ratio_of n (suc d) = Ratio (record { num = n; den = suc d; positive = zero-lt-suc d })
