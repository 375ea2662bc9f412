-- What the run-end scheme makes of a column of integers: for each run its value and its end.
use Rattle.std.specs.Prelude.{ℕ, ◌-◌, List, map, Option, None, Some}
use Rattle.vx_blocks.specs.Runs.{run_ends}
use Rattle.vx_model.specs.Column.{Column}
use Rattle.vx_model.specs.Plain.{plain}
use Rattle.vx_model.specs.Tree.{Tree, run_end}
use Rattle.vx_schemes_common.specs.Narrowed.{narrowed_numbers}
use Rattle.vx_schemes_runs.specs.RowsAt.{optional_wholes, rows_at}

-- the end of each run of equal rows, exclusive; a null equals a null
abbrev pub ends_in : Column → List ℕ
ends_in c = run_ends (optional_wholes c)

-- the value of each run, by its last row
abbrev pub run_values : Column → Column
run_values c = rows_at c (map (λ end. end - 1) (ends_in c))

-- the ends in their narrowest unsigned type
abbrev pub narrowed_ends : Column → Column
narrowed_ends c = narrowed_numbers (ends_in c)

-- the run ends of the pair: values first, then ends; plain unless there are two trees
abbrev pub runs_or_plain : Column → Option (Tree × Tree) → Tree
runs_or_plain c None = plain c
runs_or_plain c (Some pair) = run_end pair.1 pair.0
