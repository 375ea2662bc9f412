-- A base plus differences of a row's block.
use Rattle.std.specs.Prelude.{ℕ, ◌*◌, ◌/◌, ℤ, ◌+ℤ◌, List, map}
use Rattle.vx_base.specs.Masks.{rows_between}
use Rattle.vx_base.specs.PlainValue.{PlainValue, whole_or_zero}
use Rattle.vx_base.specs.Undelta.{total}
use Rattle.vx_model.specs.Rows.{block_rows}

-- a base plus the differences from the first row of a row's block up to before the row `end`
abbrev pub sum_before : ℤ → List PlainValue → ℕ → ℕ → ℤ
sum_before base deltas row end = base +ℤ total (rows_between (map whole_or_zero deltas) (block_rows * (row / block_rows)) end)
