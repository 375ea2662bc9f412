-- Rows in a line: all equal, or an arithmetic sequence of integers.
use Rattle.std.specs.Prelude.{◌≡◌, ◌<◌, ◌⊎◌, ℕ, ◌+◌, ◌-◌, ◌*◌, min, ℤ, pos, ◌+ℤ◌, ◌*ℤ◌, Bool, ◌&&◌, ◌||◌, int_le, List, length}
use Rattle.std.specs.List.{list_all, range_with_len}
use Rattle.vx_base.specs.PlainValue.{PlainValue, int, whole_or_zero}
use Rattle.vx_model.specs.Rows.{row_at, block_rows, rle_place}
use Rattle.vx_model.specs.WellFormed.{is_canonical_at, is_place}
use Rattle.vx_time.specs.declared.parts.TimestampParts.{TimestampParts}
use Rattle.vx_time.specs.PartsOf.{parts}

-- each row is the first
abbrev pub IsUniform : List PlainValue → Type 0
IsUniform vs = (i : ℕ) → i < length vs → row_at vs i ≡ row_at vs 0

-- row i is the integer first + i * step
pub record IsArithmetic (vs : List PlainValue) : Type 0 where
  pub first : ℤ
  pub step : ℤ
  pub each : (i : ℕ) → i < length vs → row_at vs i ≡ int (first +ℤ pos i *ℤ step)

-- all rows are equal, or they are an arithmetic sequence
abbrev pub IsLinear : List PlainValue → Type 0
IsLinear vs = IsUniform vs ⊎ IsArithmetic vs

-- whether the place of row i of runs in blocks is in bounds of `values` values
abbrev pub has_place : ℕ → List PlainValue → List PlainValue → ℕ → Bool
has_place values offsets indices i = is_place values (rle_place offsets indices i)

-- the last of `len` rows in a block
abbrev pub block_end : ℕ → ℕ → ℕ
block_end len block = block_rows * block + min (len - block_rows * block) block_rows - 1

-- whether neither of two numbers is negative
abbrev pub are_up : ℤ → ℤ → Bool
are_up a b = int_le (pos 0) a && int_le (pos 0) b

-- whether neither of two numbers is positive
abbrev pub are_down : ℤ → ℤ → Bool
are_down a b = int_le a (pos 0) && int_le b (pos 0)

-- whether two numbers are 0
abbrev pub are_zero : ℤ → ℤ → Bool
are_zero a b = are_up a b && are_down a b

-- whether no part of two timestamps is negative, none is positive, or two parts are 0 in both. Then all in a line between them share a sign.
abbrev pub keep_sign : TimestampParts → TimestampParts → Bool
keep_sign p q =
    (are_up p.days q.days && are_up p.seconds q.seconds && are_up p.subseconds q.subseconds)
    || (are_down p.days q.days && are_down p.seconds q.seconds && are_down p.subseconds q.subseconds)
    || (are_zero p.days q.days && are_zero p.seconds q.seconds)
    || (are_zero p.days q.days && are_zero p.subseconds q.subseconds)
    || (are_zero p.seconds q.seconds && are_zero p.subseconds q.subseconds)

-- the parts in row i, 0 of null
abbrev pub parts_at : List PlainValue → List PlainValue → List PlainValue → ℕ → TimestampParts
parts_at days seconds subseconds i = parts (whole_or_zero (row_at days i)) (whole_or_zero (row_at seconds i)) (whole_or_zero (row_at subseconds i))

-- whether each row of parts from `first` to `last` is null, or canonical
abbrev pub are_canonical_between : ℤ → List PlainValue → List PlainValue → List PlainValue → ℕ → ℕ → Bool
are_canonical_between d days seconds subseconds first last = list_all (is_canonical_at d days seconds subseconds) (range_with_len first (last - first + 1))
