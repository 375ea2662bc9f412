-- The definitions at worked values, so that a wrong rule does not check.
use Rattle.std.proofs.Common.{◌≡◌, ℤ, pos, negsuc, [], ◌∷◌, map, Some, None, true, false, refl, arith}
use Rattle.std.proofs.lemmas.Int.{ints}
use Rattle.std.specs.Int.Count.{count_leading_zeros}
use Rattle.vx_base.specs.declared.ptype.PType.TheVariants.{U8, U64, I8, I32}
use Rattle.vx_base.specs.Integers.{bits_in}
use Rattle.vx_base.specs.PlainValue.{null, int}
use Rattle.vx_stats.specs.Frequent.{frequent_value}
use Rattle.vx_stats.specs.Options.{includes, no_options}
use Rattle.vx_stats.specs.Stats.{Extremes, stats_of, run_count, distinct_info, distinct_count, distinct_counts, most_frequent}
use Rattle.vx_stats.specs.Tables.{LiesBetween, entries, table_of}
use Rattle.vx_stats.specs.declared.options.GenerateStatsOptions.{GenerateStatsOptions}
use Rattle.vx_stats.specs.Erased.{log2_of}

abbrev extremes : ℤ → ℤ → Extremes
extremes low high = record { least = low; greatest = high }

-- null, 1 and 2: two values in two runs
pub stats-null_1_2 : stats_of no_options I32 (null ∷ int (pos 1) ∷ int (pos 2) ∷ []) ≡ record { ptype = I32; null_count = 1; value_count = 2; average_run_length = 1; extremes = extremes (pos 1) (pos 2); distinct = None }
stats-null_1_2 = refl

-- a null between equal values ends no run: 5, 5, null, 5, 7 and -7, -7 are three runs of six values
pub stats-runs : stats_of no_options I8 (int (pos 5) ∷ int (pos 5) ∷ null ∷ int (pos 5) ∷ int (pos 7) ∷ int (negsuc 6) ∷ int (negsuc 6) ∷ [])
    ≡ record { ptype = I8; null_count = 1; value_count = 6; average_run_length = 2; extremes = extremes (negsuc 6) (pos 7); distinct = None }
stats-runs = refl

-- a number that comes again begins a run again
pub run_count-again : run_count (pos 1 ∷ pos 2 ∷ pos 1 ∷ []) ≡ 3
run_count-again = refl

-- the whole of i8 and of u64
pub stats-i8 : stats_of no_options I8 (int (negsuc 127) ∷ int (pos 127) ∷ []) ≡ record { ptype = I8; null_count = 0; value_count = 2; average_run_length = 1; extremes = extremes (negsuc 127) (pos 127); distinct = None }
stats-i8 = refl

pub stats-u64 : stats_of no_options U64 (int (pos 0) ∷ int (pos 18_446_744_073_709_551_615) ∷ [])
    ≡ record { ptype = U64; null_count = 0; value_count = 2; average_run_length = 1; extremes = extremes (pos 0) (pos 18_446_744_073_709_551_615); distinct = None }
stats-u64 = refl

-- without a value the extremes are the type's, the wrong way round
pub stats-empty : (stats_of no_options U8 [] ≡ record { ptype = U8; null_count = 0; value_count = 0; average_run_length = 0; extremes = extremes (pos 255) (pos 0); distinct = None })
    × (stats_of no_options I8 (null ∷ null ∷ []) ≡ record { ptype = I8; null_count = 2; value_count = 0; average_run_length = 0; extremes = extremes (pos 127) (negsuc 127); distinct = None })
stats-empty = (refl, refl)

-- 0, 1, 255, 256, 2^64 - 1, and -1 as an i8
pub log2_of-powers : map log2_of (0 ∷ 1 ∷ 255 ∷ 256 ∷ 18_446_744_073_709_551_615 ∷ bits_in I8 (negsuc 0) ∷ []) ≡ None ∷ Some 0 ∷ Some 7 ∷ Some 8 ∷ Some 63 ∷ Some 7 ∷ []
unfolding count_leading_zeros
log2_of-powers = refl

abbrev asked : GenerateStatsOptions
asked = record { count_distinct_values = true }

-- 1000, 1001, 1000, null, 1003: three values, of which 1000 stands twice
pub distinct-thousands : let values = int (pos 1000) ∷ int (pos 1001) ∷ int (pos 1000) ∷ null ∷ int (pos 1003) ∷ [] in
    (distinct_counts values ≡ (pos 1000, 2) ∷ (pos 1001, 1) ∷ (pos 1003, 1) ∷ []) × (distinct_count values ≡ 3) × (most_frequent values ≡ (pos 1000, 2))
distinct-thousands = (refl, refl, refl)

-- 0, 2^64 - 1, 0
pub distinct-u64 : let values = int (pos 0) ∷ int (pos 18_446_744_073_709_551_615) ∷ int (pos 0) ∷ [] in
    (distinct_counts values ≡ (pos 0, 2) ∷ (pos 18_446_744_073_709_551_615, 1) ∷ []) × (most_frequent values ≡ (pos 0, 2))
distinct-u64 = (refl, refl)

-- the least of the most frequent values, in any order: 7, -8, 7, 3, -8, and 9 once
pub distinct-least : let values = int (pos 7) ∷ int (negsuc 7) ∷ int (pos 7) ∷ int (pos 9) ∷ int (pos 3) ∷ int (negsuc 7) ∷ [] in
    (distinct_counts values ≡ (negsuc 7, 2) ∷ (pos 3, 1) ∷ (pos 7, 2) ∷ (pos 9, 1) ∷ []) × (most_frequent values ≡ (negsuc 7, 2))
distinct-least = (refl, refl)

-- nulls alone have no distinct value, and (0, 0) as the most frequent; without a row or a request there is none
pub distinct-absent : (distinct_info asked (null ∷ null ∷ []) ≡ Some []) × (frequent_value I8 (Some []) ≡ Some (record { ptype = I8; value = pos 0 }, 0))
    × (distinct_info asked [] ≡ None) × (distinct_info no_options (int (pos 5) ∷ []) ≡ None) × (frequent_value I8 None ≡ None)
distinct-absent = (refl, refl, refl, refl, refl)

-- 3, -1, 3 in a table of the numbers from -1 to 3, and what a table tells
pub table-threes : table_of (negsuc 0) 5 (pos 3 ∷ negsuc 0 ∷ pos 3 ∷ []) ≡ 1 ∷ 0 ∷ 0 ∷ 0 ∷ 2 ∷ []
table-threes = refl

pub entries-threes : (entries (negsuc 0) (1 ∷ 0 ∷ 0 ∷ 0 ∷ 2 ∷ []) ≡ (negsuc 0, 1) ∷ (pos 3, 2) ∷ []) × (entries (pos 7) (0 ∷ 0 ∷ []) ≡ [])
entries-threes = (refl, refl)

-- the ends of a range lie in it, and what is past them doesn't
pub between-ends : LiesBetween (negsuc 1) (pos 3) (negsuc 1) × LiesBetween (negsuc 1) (pos 3) (pos 3) × (LiesBetween (negsuc 1) (pos 3) (pos 4) → ⊥)
between-ends = (omega (arith, ints), omega (arith, ints), λ h. absurd (omega (arith, ints, h.0, h.1)))

-- what asks for distinct values includes what doesn't, and not the other way round
pub includes-each : (includes asked no_options ≡ true) × (includes no_options asked ≡ false) × (includes no_options no_options ≡ true) × (includes asked asked ≡ true)
includes-each = (refl, refl, refl, refl)
