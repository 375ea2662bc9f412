-- What a dictionary makes of a column of integers: its distinct values, ascending, and for each row the place of its value.
use Rattle.std.specs.Prelude.{ℕ, ℤ, pos, true, List, map}
use Rattle.std.specs.List.{position_or_len}
use Rattle.std.specs.Ordering.{int_eq}
use Rattle.vx_base.specs.PlainType.{nullability_of}
use Rattle.vx_base.specs.PlainType as types
use Rattle.vx_base.specs.PlainValue.{PlainValue, int}
use Rattle.vx_model.specs.Column.{Column, column}
use Rattle.vx_model.specs.Plain.{plain}
use Rattle.vx_model.specs.Rows.{each_int}
use Rattle.vx_model.specs.Tree.{Tree, dict}
use Rattle.vx_stats.specs.Stats.{distinct_values, distinct_count}
use Rattle.vx_stats.specs.declared.options.GenerateStatsOptions.{GenerateStatsOptions}
use Rattle.vx_schemes_common.specs.Dictionaries.{code_type}

-- the code of a number: its place among the distinct ones, from 0; their number where it isn't among them
abbrev pub code_of : List ℤ → ℤ → ℕ
code_of numbers z = position_or_len (int_eq z) numbers

-- the code of a row; null stays
abbrev pub code_in : List ℤ → PlainValue → PlainValue
code_in numbers = each_int (λ z. pos (code_of numbers z))

-- the distinct values, of the column's type
abbrev pub dictionary_values : Column → Column
dictionary_values c = column c.dtype (map int (distinct_values c.values))

-- the codes of the rows, as nullable as the column
abbrev pub dictionary_codes : Column → Column
dictionary_codes c = column (types.primitive (code_type (distinct_count c.values)) (nullability_of c.dtype)) (map (code_in (distinct_values c.values)) c.values)

-- the codes over the values, both plain
abbrev pub dictionary_of : Column → Tree
dictionary_of c = dict (plain (dictionary_codes c)) (plain (dictionary_values c))

-- the options of the statistics that a dictionary is made from
abbrev pub distinct_options : GenerateStatsOptions
distinct_options = record { count_distinct_values = true }
