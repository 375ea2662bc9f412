-- What the run-length scheme makes of a column of integers, by runs in blocks of 1,024 rows: the value of each run, for
-- each row the number of its run within its block, and for each block the number of runs before it.
use Rattle.std.specs.Prelude.{length, Option, None, Some}
use Rattle.vx_blocks.specs.Runs.{heads, run_numbers, offsets}
use Rattle.vx_model.specs.Column.{Column}
use Rattle.vx_model.specs.Plain.{plain}
use Rattle.vx_model.specs.Tree.{Tree, rle}
use Rattle.vx_schemes_common.specs.Narrowed.{narrowed_numbers}
use Rattle.vx_schemes_runs.specs.RowsAt.{optional_wholes, rows_at}

-- the value of each run, by its first row
abbrev pub head_values : Column → Column
head_values c = rows_at c (heads (optional_wholes c))

-- the number of each row's run within its block, padded to whole blocks, in the narrowest unsigned type
abbrev pub narrowed_run_numbers : Column → Column
narrowed_run_numbers c = narrowed_numbers (run_numbers (optional_wholes c))

-- the number of runs before each block, in the narrowest unsigned type
abbrev pub narrowed_offsets : Column → Column
narrowed_offsets c = narrowed_numbers (offsets (optional_wholes c))

-- the run-length array of the triple: values, run numbers within a block, and the offset of each block's first value; plain unless there are three trees
abbrev pub rle_or_plain : Column → Option (Tree × Tree × Tree) → Tree
rle_or_plain c None = plain c
rle_or_plain c (Some three) = rle three.0 three.1 three.2 (length c.values)
