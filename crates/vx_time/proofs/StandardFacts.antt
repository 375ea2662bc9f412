-- Worked timestamps, counted by hand, so that a wrong rule in the definitions does not check.
use Rattle.std.specs.Prelude.{◌≡◌, ◌∷◌, [], map, true, false, Some, None, pos, negsuc, refl}
use Rattle.std.specs.declared.cmp.Ordering.TheVariants.{Less, Equal, Greater}
use Rattle.vx_base.specs.declared.error.VortexError.TheVariants.{DayUnit, DaysOutOfRange, TimestampOutOfRange}
use Rattle.vx_base.specs.declared.timestamp.TimeUnit.TheVariants.{Nanoseconds, Microseconds, Milliseconds, Seconds, Days}
use Rattle.vx_time.specs.CanonicalParts.{is_canonical, parts_cmp}
use Rattle.vx_time.specs.PartsOf.{parts, parts_of, sum_of}
use Rattle.vx_time.specs.Refusals.{split_refusal, combine_refusal}

-- a day, an hour, two minutes and three seconds
pub splits :
    (parts_of (pos 1) (pos 90_123) ≡ parts (pos 1) (pos 3_723) (pos 0))
    × (parts_of (pos 1_000) (pos 90_123_456) ≡ parts (pos 1) (pos 3_723) (pos 456))
    × (parts_of (pos 1_000_000_000) (pos 90_123_456_789_123) ≡ parts (pos 1) (pos 3_723) (pos 456_789_123))
splits = (refl, refl, refl)

-- before the epoch no part is positive; the days are those of any timestamp, whatever fits 32 bits
pub splits_of_negatives :
    (parts_of (pos 1) (negsuc 0) ≡ parts (pos 0) (negsuc 0) (pos 0))
    × (parts_of (pos 1_000) (negsuc 90_123_455) ≡ parts (negsuc 0) (negsuc 3_722) (negsuc 455))
    × (parts_of (pos 1) (negsuc 9_223_372_036_854_775_807) ≡ parts (negsuc 106_751_991_167_299) (negsuc 55_807) (pos 0))
    × (parts_of (pos 1_000_000_000) (negsuc 9_223_372_036_854_775_807) ≡ parts (negsuc 106_750) (negsuc 85_635) (negsuc 854_775_807))
splits_of_negatives = (refl, refl, refl, refl)

-- only in seconds and milliseconds do the days pass 32 signed bits; days as the unit are refused first
pub split_refusals :
    map (λ u. split_refusal u (negsuc 9_223_372_036_854_775_807)) (Days ∷ Seconds ∷ Milliseconds ∷ Microseconds ∷ Nanoseconds ∷ [])
    ≡ Some DayUnit ∷ Some DaysOutOfRange ∷ Some DaysOutOfRange ∷ None ∷ None ∷ []
split_refusals = refl

pub sums :
    (sum_of (pos 1_000_000) (parts (pos 1) (pos 3_723) (pos 456_789)) ≡ pos 90_123_456_789)
    × (combine_refusal Nanoseconds (parts (pos 106_752) (pos 0) (pos 0)) ≡ Some TimestampOutOfRange)
    × (combine_refusal Microseconds (parts (pos 106_752) (pos 0) (pos 0)) ≡ None)
    × (combine_refusal Days (parts (pos 106_752) (pos 0) (pos 0)) ≡ Some DayUnit)
sums = (refl, refl, refl, refl)

-- a day less a second, a whole day of seconds and a whole second of milliseconds are no split
pub canonical :
    map (is_canonical (pos 1_000)) (parts (pos 1) (pos 86_399) (pos 999) ∷ parts (negsuc 0) (negsuc 86_398) (negsuc 998) ∷ parts (pos 1) (negsuc 0) (pos 0) ∷ parts (pos 0) (pos 86_400) (pos 0) ∷ parts (pos 0) (pos 0) (pos 1_000) ∷ [])
    ≡ true ∷ true ∷ false ∷ false ∷ false ∷ []
canonical = refl

-- the least timestamp in nanoseconds, and one below it
pub canonical_at_the_end :
    map (is_canonical (pos 1_000_000_000)) (parts (negsuc 106_750) (negsuc 85_635) (negsuc 854_775_807) ∷ parts (negsuc 106_750) (negsuc 85_635) (negsuc 854_775_808) ∷ [])
    ≡ true ∷ false ∷ []
canonical_at_the_end = refl

-- -2 s, -1.5 s, 0 s and a day, each less than the next
pub orders :
    (parts_cmp (parts (pos 0) (negsuc 1) (pos 0)) (parts (pos 0) (negsuc 0) (negsuc 499)) ≡ Less)
    × (parts_cmp (parts (pos 0) (negsuc 0) (negsuc 499)) (parts (pos 0) (pos 0) (pos 0)) ≡ Less)
    × (parts_cmp (parts (pos 1) (pos 0) (pos 0)) (parts (pos 0) (pos 86_399) (pos 999)) ≡ Greater)
    × (parts_cmp (parts (pos 1) (pos 2) (pos 3)) (parts (pos 1) (pos 2) (pos 3)) ≡ Equal)
orders = (refl, refl, refl, refl)
