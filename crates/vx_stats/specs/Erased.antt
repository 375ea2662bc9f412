-- What statistics of each of the eight integer types have: their type, their extremes and their distinct values.
use Rattle.std.specs.Prelude.{ℕ, ◌-◌, ◌==◌, ℤ, if◌then◌else◌, List, Option, None, Some}
use Rattle.vx_base.specs.Digits.{digits}
use Rattle.vx_base.specs.declared.ptype.PType.{PType}
use Rattle.vx_base.specs.declared.ptype.PType.TheVariants as kinds
use Rattle.vx_stats.specs.Stats.{Extremes, PlainTyped}
use Rattle.vx_stats.specs.declared.integer.erased.ErasedStats.{ErasedStats}
use Rattle.vx_stats.specs.declared.integer.erased.ErasedStats.TheVariants.{U8, U16, U32, U64, I8, I16, I32, I64}

-- the type of the integers
abbrev pub ptype_in : ErasedStats → PType
ptype_in (U8 e) = kinds.U8
ptype_in (U16 e) = kinds.U16
ptype_in (U32 e) = kinds.U32
ptype_in (U64 e) = kinds.U64
ptype_in (I8 e) = kinds.I8
ptype_in (I16 e) = kinds.I16
ptype_in (I32 e) = kinds.I32
ptype_in (I64 e) = kinds.I64

-- the statistics behind the type
abbrev pub typed_of : ErasedStats → PlainTyped
typed_of (U8 e) = e
typed_of (U16 e) = e
typed_of (U32 e) = e
typed_of (U64 e) = e
typed_of (I8 e) = e
typed_of (I16 e) = e
typed_of (I32 e) = e
typed_of (I64 e) = e

-- the least and the greatest value
abbrev pub extremes_of : ErasedStats → Extremes
extremes_of stats = (typed_of stats).extremes

-- the distinct values with their counts; None where they were not requested
abbrev pub distinct_of : ErasedStats → Option (List (ℤ × ℕ))
distinct_of stats = (typed_of stats).distinct

-- floor(log2(n)) of n < 2^64; None of 0
abbrev pub log2_of : ℕ → Option ℕ
log2_of n = if n == 0 then None else Some (digits n - 1)
