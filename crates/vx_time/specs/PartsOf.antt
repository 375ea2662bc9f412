-- Timestamps in parts, over whole numbers of any size. d is the number of units in a second.
use Rattle.std.specs.Prelude.{ℤ, pos, ◌+ℤ◌, ◌-ℤ◌, ◌*ℤ◌, int_div, unwrap_or}
use Rattle.vx_base.specs.declared.timestamp.TimeUnit.{TimeUnit}
use Rattle.vx_base.specs.Timestamps.{divisor_of}
use Rattle.vx_time.specs.declared.parts.TimestampParts.{TimestampParts}

-- three whole numbers as parts
abbrev pub parts : ℤ → ℤ → ℤ → TimestampParts
parts days seconds subseconds = record { days = days; seconds = seconds; subseconds = subseconds }

-- the units in a second; 0 where the unit is days, of which a second is no whole number
abbrev pub units_per_second : TimeUnit → ℤ
units_per_second unit = unwrap_or (divisor_of unit) (pos 0)

-- days = t / (86,400 * d), seconds = t / d - days * 86,400, subseconds = t - (t / d) * d; division is towards zero
abbrev pub parts_of : ℤ → ℤ → TimestampParts
parts_of d t =
    let days = int_div t (pos 86_400 *ℤ d) in
    let whole_seconds = int_div t d in
    parts days (whole_seconds -ℤ days *ℤ pos 86_400) (t -ℤ whole_seconds *ℤ d)

-- days * (86,400 * d) + seconds * d + subseconds
abbrev pub sum_of : ℤ → TimestampParts → ℤ
sum_of d p = p.days *ℤ (pos 86_400 *ℤ d) +ℤ p.seconds *ℤ d +ℤ p.subseconds
