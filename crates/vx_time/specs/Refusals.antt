-- Why a split or a combination is refused, None where it isn't. Days as the unit come first.
use Rattle.std.specs.Prelude.{ℤ, Option, None}
use Rattle.vx_base.specs.declared.error.VortexError.{VortexError}
use Rattle.vx_base.specs.declared.error.VortexError.TheVariants.{DayUnit, DaysOutOfRange, TimestampOutOfRange}
use Rattle.vx_base.specs.declared.ptype.PType.TheVariants.{I32, I64}
use Rattle.vx_base.specs.declared.timestamp.TimeUnit.{TimeUnit}
use Rattle.vx_base.specs.Answers.{unless}
use Rattle.vx_base.specs.Integers.{lies_in}
use Rattle.vx_base.specs.Timestamps.{divides}
use Rattle.vx_time.specs.declared.parts.TimestampParts.{TimestampParts}
use Rattle.vx_time.specs.PartsOf.{parts_of, sum_of, units_per_second}

-- the days have to fit 32 signed bits
abbrev pub split_refusal : TimeUnit → ℤ → Option VortexError
split_refusal unit t = unless (divides unit) DayUnit (unless (lies_in I32 (parts_of (units_per_second unit) t).days) DaysOutOfRange None)

-- the sum has to fit 64 signed bits
abbrev pub combine_refusal : TimeUnit → TimestampParts → Option VortexError
combine_refusal unit p = unless (divides unit) DayUnit (unless (lies_in I64 (sum_of (units_per_second unit) p)) TimestampOutOfRange None)
