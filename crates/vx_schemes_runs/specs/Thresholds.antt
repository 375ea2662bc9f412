-- The threshold of a deferred estimate: the score that a ratio has to pass.
use Rattle.std.specs.Prelude.{Bool, false, not, if◌then◌else◌, Option, Some, None}
use Rattle.vx_base.specs.Fractions.{is_less}
use Rattle.vx_base.specs.declared.fraction.Fraction.{Fraction}
use Rattle.vx_scheme.specs.declared.estimate.EstimateVerdict.{EstimateVerdict}
use Rattle.vx_scheme.specs.declared.estimate.EstimateVerdict.TheVariants.{Skip, AlwaysUse, Ratio}

-- there is a threshold, and the ratio is at most that
abbrev pub is_beaten : Fraction → Option Fraction → Bool
is_beaten ratio None = false
is_beaten ratio (Some threshold) = not (is_less threshold ratio)

-- the verdict at a threshold: Skip in place of a ratio that is at most the threshold
abbrev pub above : Option Fraction → EstimateVerdict → EstimateVerdict
above threshold Skip = Skip
above threshold AlwaysUse = AlwaysUse
above threshold (Ratio ratio) = if is_beaten ratio threshold then Skip else Ratio ratio
