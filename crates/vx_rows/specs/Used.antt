-- The values that stand in the rows of a dictionary: those that its codes name.
use Rattle.std.specs.Prelude.{◌≡◌, ℕ, pos, Bool, true, false, List, ◌++◌, length, fold, replicate, count_by, slice_set}
use Rattle.vx_base.specs.PlainValue.{PlainValue, null, int, is_null}
use Rattle.vx_rows.specs.Extremes.{valid_items}
use Rattle.vx_rows.specs.declared.used.Used.{Used}

-- bits with the one at a code true; null changes none
abbrev pub marked : List Bool → PlainValue → List Bool
marked bits (int (pos k)) = slice_set bits k true
marked bits _ = bits

-- for each of `len` values, whether a code names it
abbrev pub named_by : ℕ → List PlainValue → List Bool
named_by len codes = fold marked (replicate len false) codes

-- null for each null code, and then the values that codes name
abbrev pub row_values : List PlainValue → List PlainValue → List PlainValue
row_values codes values = replicate (count_by is_null codes) null ++ valid_items (named_by (length values) codes) values

-- which of `len` values codes name, and how many codes are null
pub record IsUsed (len : ℕ) (codes : List PlainValue) (used : Used) : Type 0 where
  pub named : used.named ≡ named_by len codes
  pub nulls : used.nulls ≡ count_by is_null codes
