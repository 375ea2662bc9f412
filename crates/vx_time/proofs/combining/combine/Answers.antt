use Rattle.std.proofs.Common.{◌≡◌, ℤ, pos, subst, sym, ◌∙◌, Some, None, Result, is_some, unwrap_or, FitsSigned, rules}
use Rattle.std.proofs.lemmas.Int.{to_z-of_z}
use Rattle.std.specs.Int.{w64}
use Rattle.vx_base.specs.Answers.{SurelyDecided, unless}
use Rattle.vx_base.specs.declared.error.VortexError.{VortexError}
use Rattle.vx_base.specs.declared.error.VortexError.TheVariants.{DayUnit, TimestampOutOfRange}
use Rattle.vx_base.specs.declared.ptype.PType.TheVariants.{I64}
use Rattle.vx_base.specs.declared.timestamp.TimeUnit.{TimeUnit}
use Rattle.vx_base.specs.Integers.{lies_in}
use Rattle.vx_base.specs.Timestamps.{divisor_of}
use Rattle.vx_time.specs.declared.parts.TimestampParts.{TimestampParts}
use Rattle.vx_time.specs.PartsOf.{sum_of, units_per_second}
use Rattle.vx_time.specs.Refusals.{combine_refusal}
use Rattle.vx_time.proofs.combining.combine.Goals as goal

-- the answer by the units in a second is the answer by the unit
by_unit : (u : TimeUnit) (d : ℤ) (p : TimestampParts) (r : Result ℤ VortexError) → divisor_of u ≡ Some d → SurelyDecided (unless (lies_in I64 (sum_of d p)) TimestampOutOfRange None) (λ s. s ≡ sum_of d p) r → SurelyDecided (combine_refusal u p) (λ s. s ≡ sum_of (units_per_second u) p) r
by_unit u d p r e h = subst (λ o. SurelyDecided (unless (is_some o) DayUnit (unless (lies_in I64 (sum_of (unwrap_or o (pos 0)) p)) TimestampOutOfRange None)) (λ s. s ≡ sum_of (unwrap_or o (pos 0)) p) r) (sym e) h

pub returns : goal.returns
returns c =
    let unit : divisor_of c.args.time_unit ≡ Some c.in-Some.divisor = sym c.divisor.ensures ∙ c.in-Some.is in
    let fits : FitsSigned w64 c.in-Some.divisor = search rules in
    let told = simp to_z-of_z at c.combine_by.ensures in
    by_unit c.args.time_unit c.in-Some.divisor c.args.ts_parts c.combine_by.result unit told
