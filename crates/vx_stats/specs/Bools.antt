-- Statistics of a column of truth values: plain counts over its rows.
use Rattle.std.specs.Prelude.{ℕ, Bool, true, false, ◌==◌, ◌&&◌, ◌||◌, nat_lt, List, count_by, is_some}
use Rattle.vx_base.specs.PlainType.{PlainType, boolean}
use Rattle.vx_base.specs.PlainValue.{PlainValue, truth_or_false}
use Rattle.vx_model.specs.Leaf.{one_value}
use Rattle.vx_stats.specs.Rows.{valid_count}
use Rattle.vx_stats.specs.Stats.{null_count}

-- whether it is the type of truth values
abbrev pub is_bool : PlainType → Bool
is_bool (boolean n) = true
is_bool _ = false

-- the number of true rows
abbrev pub true_count : List PlainValue → ℕ
true_count values = count_by truth_or_false values

-- the statistics of truth values; constant where some row is valid and all valid rows are equal
pub record PlainBools : Type 0 where
  pub null_count : ℕ
  pub value_count : ℕ
  pub true_count : ℕ
  pub is_constant : Bool

-- the statistics of a column
abbrev pub bools_of : List PlainValue → PlainBools
bools_of values =
    record { null_count = null_count values; value_count = valid_count values; true_count = true_count values; is_constant = is_some (one_value values) }

-- whether there is a value and all are equal, by the number of values and of true ones
abbrev pub are_equal : ℕ → ℕ → Bool
are_equal values trues = nat_lt 0 values && (trues == 0 || trues == values)
