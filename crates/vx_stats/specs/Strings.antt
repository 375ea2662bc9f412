-- Statistics of a column of texts or binaries. The number of distinct values is estimated by their lengths and first four bytes.
use Rattle.std.specs.Prelude.{ℕ, List, map, Option, Some, None, if◌then◌else◌}
use Rattle.std.specs.Set.{distinct_count}
use Rattle.vx_base.specs.PlainValue.{PlainValue, bytes_or_empty}
use Rattle.vx_stats.specs.Keys.{key_of, same_key}
use Rattle.vx_stats.specs.Rows.{valid_count}
use Rattle.vx_stats.specs.Stats.{null_count}
use Rattle.vx_stats.specs.declared.options.GenerateStatsOptions.{GenerateStatsOptions}

-- the number of distinct keys over all rows; a null counts as empty
abbrev pub distinct_keys : List PlainValue → ℕ
distinct_keys values = distinct_count same_key (map key_of (map bytes_or_empty values))

-- the estimate where it is requested
abbrev pub estimate : GenerateStatsOptions → List PlainValue → Option ℕ
estimate options values = if options.count_distinct_values then Some (distinct_keys values) else None

-- the statistics of texts or binaries
pub record PlainStrings : Type 0 where
  pub null_count : ℕ
  pub value_count : ℕ
  pub estimated_distinct_count : Option ℕ

-- the statistics of a column, as far as they are requested
abbrev pub strings_of : GenerateStatsOptions → List PlainValue → PlainStrings
strings_of options values = record { null_count = null_count values; value_count = valid_count values; estimated_distinct_count = estimate options values }
