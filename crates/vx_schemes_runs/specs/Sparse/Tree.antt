-- What the sparse scheme makes of a column of integers: a fill, and as patches the values that differ from it with their rows.
use Rattle.std.specs.Prelude.{ℤ, if◌then◌else◌, List, Option, None, Some}
use Rattle.vx_base.specs.PlainValue.{PlainValue}
use Rattle.vx_sparse_array.specs.Filling.{Filling, filling_of, is_mostly_null, patched_rows, patch_values, filled_over}
use Rattle.vx_model.specs.Column.{Column}
use Rattle.vx_model.specs.Plain.{plain}
use Rattle.vx_model.specs.Tree.{Tree}
use Rattle.vx_stats.specs.Stats.{most_frequent}
use Rattle.vx_schemes_common.specs.Narrowed.{narrowed_numbers}

-- the fill: null (None) where more than 9 of 10 rows are null, else the most frequent value
abbrev pub sparse_fill : List PlainValue → Option ℤ
sparse_fill values = if is_mostly_null values then None else Some (most_frequent values).0

-- the fill in every row but the patched ones
abbrev pub sparse_filling : Column → Filling
sparse_filling c = filling_of (sparse_fill c.values)

-- the patched values
abbrev pub sparse_values : Column → Column
sparse_values c = patch_values (sparse_filling c) c

-- their rows in the narrowest unsigned type
abbrev pub sparse_indices : Column → Column
sparse_indices c = narrowed_numbers (patched_rows (sparse_filling c) c.values)

-- the sparse array of the pair, values first, then their rows; plain unless there are two trees
abbrev pub sparse_or_plain : Column → Option (Tree × Tree) → Tree
sparse_or_plain c None = plain c
sparse_or_plain c (Some pair) = filled_over (sparse_filling c) c pair.1 pair.0
