-- Whether the valid rows of a column share one value.
use Rattle.std.specs.Prelude.{◌≡◌, ◌<◌, true, false, List, length, Some, None}
use Rattle.vx_base.specs.PlainValue.{PlainValue}
use Rattle.vx_model.specs.Leaf.{first_valid, each_null_or}
use Rattle.vx_model.specs.Rows.{row_at}
use Rattle.vx_compressor.specs.declared.constant.Shared.{Shared}
use Rattle.vx_compressor.specs.declared.constant.Shared.TheVariants.{Nothing, One, Many}

-- no row is valid; every row is null or has the value of this row, the first that is valid; two valid rows differ
abbrev pub IsShared : List PlainValue → Shared → Type 0
IsShared values Nothing = first_valid values ≡ None
IsShared values (One row) = (row < length values) × (first_valid values ≡ Some (row_at values row)) × (each_null_or (row_at values row) values ≡ true)
IsShared values Many = (v : PlainValue) × (first_valid values ≡ Some v) × (each_null_or v values ≡ false)
