-- Statistics of a column of integers: plain counts over its rows.
use Rattle.std.specs.Prelude.{ℕ, suc, ◌+◌, ◌/◌, ◌^◌, ◌==◌, nat_lt, ◌&&◌, ℤ, if◌then◌else◌, List, [], ◌∷◌, length, count_by, fold, Option, None, Some}
use Rattle.std.specs.Int.{int_min, int_max}
use Rattle.std.specs.Ordering.{int_eq}
use Rattle.vx_base.specs.Answers.{unless}
use Rattle.vx_base.specs.declared.error.VortexError.{VortexError}
use Rattle.vx_base.specs.declared.error.VortexError.TheVariants.{TooManyRows}
use Rattle.vx_base.specs.declared.ptype.PType.{PType}
use Rattle.vx_base.specs.Integers.{least, greatest}
use Rattle.vx_base.specs.IntegersIn.{integers_in}
use Rattle.vx_base.specs.PlainValue.{PlainValue, is_null}
use Rattle.vx_stats.specs.Distinct as numbers
use Rattle.vx_stats.specs.declared.options.GenerateStatsOptions.{GenerateStatsOptions}

-- the integers of the valid rows
abbrev pub valid_wholes : List PlainValue → List ℤ
valid_wholes values = integers_in values

-- the number of null rows
abbrev pub null_count : List PlainValue → ℕ
null_count values = count_by is_null values

-- the number of valid rows
abbrev pub value_count : List PlainValue → ℕ
value_count values = length (valid_wholes values)

-- the number of changes from one number to the next, from z on
abbrev pub runs_after : ℤ → List ℤ → ℕ
runs_after z [] = 0
runs_after z (w ∷ ws) = (if int_eq z w then 0 else 1) + runs_after w ws

-- the number of runs of equal numbers
abbrev pub run_count : List ℤ → ℕ
run_count [] = 0
run_count (z ∷ zs) = suc (runs_after z zs)

-- values / runs, rounded down; 0 without a value. Nulls are skipped: one between equal values ends no run
abbrev pub average_run_length : List PlainValue → ℕ
average_run_length values = if value_count values == 0 then 0 else value_count values / run_count (valid_wholes values)

-- the least value; the type's greatest where there is none
abbrev pub least_in : PType → List PlainValue → ℤ
least_in p values = fold int_min (greatest p) (valid_wholes values)

-- the greatest value; the type's least where there is none
abbrev pub greatest_in : PType → List PlainValue → ℤ
greatest_in p values = fold int_max (least p) (valid_wholes values)

-- the least and the greatest integer
pub record Extremes : Type 0 where
  pub least : ℤ
  pub greatest : ℤ

-- the extremes of a column
abbrev pub extremes_in : PType → List PlainValue → Extremes
extremes_in p values = record { least = least_in p values; greatest = greatest_in p values }

-- the distinct values, ascending
abbrev pub distinct_values : List PlainValue → List ℤ
distinct_values values = numbers.distinct (valid_wholes values)

-- the distinct values, ascending, each with its count
abbrev pub distinct_counts : List PlainValue → List (ℤ × ℕ)
distinct_counts values = numbers.value_counts (valid_wholes values)

-- the number of distinct values
abbrev pub distinct_count : List PlainValue → ℕ
distinct_count values = length (distinct_values values)

-- the most frequent value with its count, the least one where several tie
abbrev pub most_frequent : List PlainValue → ℤ × ℕ
most_frequent values = numbers.most_frequent (distinct_counts values)

-- the distinct values with their counts where they are requested and there is a row, else None
abbrev pub distinct_info : GenerateStatsOptions → List PlainValue → Option (List (ℤ × ℕ))
distinct_info options values = if options.count_distinct_values && nat_lt 0 (length values) then Some (distinct_counts values) else None

-- the statistics that are kept in the type of the integers
pub record PlainTyped : Type 0 where
  pub extremes : Extremes
  pub distinct : Option (List (ℤ × ℕ))

-- the extremes, without distinct values
abbrev pub extremes_alone : Extremes → PlainTyped
extremes_alone e = record { extremes = e; distinct = None }

-- the extremes, and the distinct values where they are requested
abbrev pub typed_of : GenerateStatsOptions → PType → List PlainValue → PlainTyped
typed_of options p values = record { extremes = extremes_in p values; distinct = distinct_info options values }

-- the statistics of integers of one type
pub record PlainStats : Type 0 where
  pub ptype : PType
  pub null_count : ℕ
  pub value_count : ℕ
  pub average_run_length : ℕ
  pub extremes : Extremes
  pub distinct : Option (List (ℤ × ℕ))

-- the statistics of a column, as far as they are requested
abbrev pub stats_of : GenerateStatsOptions → PType → List PlainValue → PlainStats
stats_of options p values =
    record {
      ptype = p;
      null_count = null_count values;
      value_count = value_count values;
      average_run_length = average_run_length values;
      extremes = extremes_in p values;
      distinct = distinct_info options values;
    }

-- refused above 2^32 - 1 rows, since row counts have 32 bits
abbrev pub stats_refusal : List PlainValue → Option VortexError
stats_refusal values = unless (nat_lt (length values) (2 ^ 32)) TooManyRows None
