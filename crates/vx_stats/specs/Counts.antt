-- The row counts that statistics of integers have.
use Rattle.std.specs.Prelude.{List}
use Rattle.vx_base.specs.PlainValue.{PlainValue}
use Rattle.vx_stats.specs.Stats.{null_count, value_count, average_run_length}
use Rattle.vx_stats.specs.declared.integer.counts.RowCounts.{RowCounts}

-- the row counts of a column, without extremes or distinct values
abbrev pub counts_of : List PlainValue → RowCounts
counts_of values = record { null_count = null_count values; value_count = value_count values; average_run_length = average_run_length values }
