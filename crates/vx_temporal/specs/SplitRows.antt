-- The parts of a list of timestamps, as machine integers. d is the number of units in a second.
use Rattle.std.specs.Prelude.{◌≡◌, ℤ, pos, Bool, int_lt, if◌then◌else◌, List, [], length, map, take, Option, None}
use Rattle.std.specs.List.{list_all}
use Rattle.vx_base.specs.Answers.{unless}
use Rattle.vx_base.specs.Integers.{lies_in}
use Rattle.vx_base.specs.declared.error.VortexError.{VortexError}
use Rattle.vx_base.specs.declared.error.VortexError.TheVariants.{DaysOutOfRange}
use Rattle.vx_base.specs.declared.ptype.PType.TheVariants.{I32}
use Rattle.vx_time.specs.PartsOf.{parts_of}

-- the day, the seconds and the subseconds of a timestamp
abbrev pub day_in : ℤ → ℤ → ℤ
day_in d t = (parts_of d t).days

-- The seconds of a moment's day, with the moment's sign.
abbrev pub second_in : ℤ → ℤ → ℤ
second_in d t = (parts_of d t).seconds

-- What is left within a moment's second, in the column's unit, with the moment's sign.
abbrev pub subsecond_in : ℤ → ℤ → ℤ
subsecond_in d t = (parts_of d t).subseconds

-- whether the day fits 32 signed bits
abbrev pub has_day : ℤ → ℤ → Bool
has_day d t = lies_in I32 (day_in d t)

-- why timestamps aren't split: a day that doesn't fit
abbrev pub days_refusal : ℤ → List ℤ → Option VortexError
days_refusal d ts = unless (list_all (has_day d) ts) DaysOutOfRange None

-- the first rows of three lists are the parts
pub record AreWritten (d : ℤ) (ts xs ys zs : List ℤ) : Type 0 where
  pub days : take (length ts) xs ≡ map (day_in d) ts
  pub seconds : take (length ts) ys ≡ map (second_in d) ts
  pub subseconds : take (length ts) zs ≡ map (subsecond_in d) ts

-- subseconds, none where a unit is a second
abbrev pub finer : ℤ → List ℤ → List ℤ
finer d xs = if int_lt (pos 1) d then xs else []

-- three lists are the parts, but for subseconds that are all 0
pub record AreParts (d : ℤ) (ts xs ys zs : List ℤ) : Type 0 where
  pub days : xs ≡ map (day_in d) ts
  pub seconds : ys ≡ map (second_in d) ts
  pub subseconds : zs ≡ finer d (map (subsecond_in d) ts)
