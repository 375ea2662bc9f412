-- What a scheme that is asked again may answer, given the score to beat.
use Rattle.std.specs.Prelude.{◌≡◌, ◌⊎◌, false, Option, Some, None}
use Rattle.vx_base.specs.Fractions.{is_less}
use Rattle.vx_base.specs.declared.fraction.Fraction.{Fraction}
use Rattle.vx_scheme.specs.declared.estimate.EstimateVerdict.{EstimateVerdict}
use Rattle.vx_scheme.specs.declared.estimate.EstimateVerdict.TheVariants.{Skip, AlwaysUse, Ratio}

-- the verdict; Skip may stand for a ratio that isn't above the threshold
abbrev pub IsResolved : Option Fraction → EstimateVerdict → EstimateVerdict → Type 0
IsResolved None verdict answer = answer ≡ verdict
IsResolved (Some t) Skip answer = answer ≡ Skip
IsResolved (Some t) AlwaysUse answer = answer ≡ AlwaysUse
IsResolved (Some t) (Ratio r) answer = (answer ≡ Ratio r) ⊎ ((answer ≡ Skip) × (is_less t r ≡ false))
