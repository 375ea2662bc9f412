-- Options of statistics: the union of two, and when one includes another.
use Rattle.std.specs.Prelude.{Bool, false, not, ◌||◌}
use Rattle.vx_stats.specs.declared.options.GenerateStatsOptions.{GenerateStatsOptions}

-- only the statistics that are always computed
abbrev pub no_options : GenerateStatsOptions
no_options = record { count_distinct_values = false }

-- the union: what either requests
abbrev pub merge_of : GenerateStatsOptions → GenerateStatsOptions → GenerateStatsOptions
merge_of a b = record { count_distinct_values = a.count_distinct_values || b.count_distinct_values }

-- the first requests all that the second does
abbrev pub includes : GenerateStatsOptions → GenerateStatsOptions → Bool
includes a b = not b.count_distinct_values || a.count_distinct_values
