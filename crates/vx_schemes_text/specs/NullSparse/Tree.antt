-- What the sparse scheme makes of a column of texts that are mostly null: the values, and the numbers of their rows.
use Rattle.std.specs.Prelude.{Bool, nat_lt, ◌&&◌, List}
use Rattle.vx_base.specs.PlainValue.{PlainValue}
use Rattle.vx_model.specs.Column.{Column}
use Rattle.vx_model.specs.Plain.{plain}
use Rattle.vx_model.specs.Tree.{Tree}
use Rattle.vx_stats.specs.Rows.{valid_count}
use Rattle.vx_sparse_array.specs.Filling.{null_filling, is_mostly_null, patched_rows, patch_values, filled_over}
use Rattle.vx_schemes_common.specs.Narrowed.{narrowed_numbers}

-- more than 9 of 10 rows are null, but not all of them
abbrev pub is_null_dominated : List PlainValue → Bool
is_null_dominated values = nat_lt 0 (valid_count values) && is_mostly_null values

-- the numbers of the rows with values, in the narrowest unsigned type
abbrev pub value_indices : Column → Column
value_indices c = narrowed_numbers (patched_rows null_filling c.values)

-- the values, plain, over a tree of their indices, and null in every other row
abbrev pub sparse_texts : Column → Tree → Tree
sparse_texts c indices = filled_over null_filling c indices (plain (patch_values null_filling c))
