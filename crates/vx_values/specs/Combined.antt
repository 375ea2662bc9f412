-- Columns of parts into one column of 64 signed bits.
use Rattle.std.specs.Prelude.{ℕ, ◌+◌, ℤ, pos, ◌+ℤ◌, ◌*ℤ◌, List, length, map, slice_index_or}
use Rattle.std.specs.List.{range_with_len}
use Rattle.vx_base.specs.Wrapping.{wrap}
use Rattle.vx_base.specs.declared.ptype.PType.TheVariants.{I64}

-- item i, 0 out of bounds
abbrev pub item_at : List ℤ → ℕ → ℤ
item_at xs i = slice_index_or xs i (pos 0)

-- the items of some rows, from `start` on, times the factor; wrapped
abbrev pub scaled : ℕ → ℤ → List ℤ → ℕ → List ℤ
scaled start factor items rows = map (λ i. wrap I64 (item_at items (start + i) *ℤ factor)) (range_with_len 0 rows)

-- each sum plus the item of its row, `start` rows further on, times the factor; wrapped
abbrev pub added : ℕ → ℤ → List ℤ → List ℤ → List ℤ
added start factor items sums = map (λ i. wrap I64 (item_at sums i +ℤ item_at items (start + i) *ℤ factor)) (range_with_len 0 (length sums))

-- in row i the days and the seconds times their factors, and the subseconds; wrapped
abbrev pub sum_at : ℤ → ℤ → List ℤ → List ℤ → List ℤ → ℕ → ℤ
sum_at of_days of_seconds days seconds subseconds i = wrap I64 (item_at days i *ℤ of_days +ℤ item_at seconds i *ℤ of_seconds +ℤ item_at subseconds i)

-- that sum in each row
abbrev pub combined : ℤ → ℤ → List ℤ → List ℤ → List ℤ → List ℤ
combined of_days of_seconds days seconds subseconds = map (sum_at of_days of_seconds days seconds subseconds) (range_with_len 0 (length days))
