-- Some rows of a column of integers, by their numbers.
use Rattle.std.specs.Prelude.{ℕ, ℤ, List, map, Option}
use Rattle.vx_base.specs.IntegersIn.{integer_in}
use Rattle.vx_model.specs.Column.{Column, column}
use Rattle.vx_model.specs.Rows.{row_at}

-- the rows as optional whole numbers, None where null
abbrev pub optional_wholes : Column → List (Option ℤ)
optional_wholes c = map integer_in c.values

-- the column of the rows at some indices, in the order of the indices
abbrev pub rows_at : Column → List ℕ → Column
rows_at c numbers = column c.dtype (map (row_at c.values) numbers)
