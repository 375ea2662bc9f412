-- Runs: maximal ranges of equal rows.
use Rattle.std.specs.Prelude.{ℕ, ◌+◌, ◌-◌, ◌*◌, ◌/◌, ◌%◌, nat_lt, ℤ, Bool, ◌==◌, ◌||◌, if◌then◌else◌, List, length, map, filter, Option}
use Rattle.std.specs.List.{range_with_len}
use Rattle.vx_base.specs.Packed.{block_count}
use Rattle.vx_blocks.specs.Optional.{differs}

-- whether a run ends at `end`, exclusive: at a row that differs from the row before it, and after the last row
abbrev pub ends_run : List (Option ℤ) → ℕ → Bool
ends_run rows end = end == length rows || differs rows end

-- the exclusive ends of all runs, ascending
abbrev pub run_ends : List (Option ℤ) → List ℕ
run_ends rows = filter (ends_run rows) (range_with_len 1 (length rows))

-- ---- runs within blocks of 1,024 rows: a run also ends with its block

-- whether a run begins at a row: at the first row of a block, and at a row that differs from the row before it
abbrev pub begins_run : List (Option ℤ) → ℕ → Bool
begins_run rows i = i % 1024 == 0 || differs rows i

-- the first rows of the runs that begin before a row, ascending
abbrev pub heads_before : List (Option ℤ) → ℕ → List ℕ
heads_before rows i = filter (begins_run rows) (range_with_len 0 i)

-- the first row of each run, ascending
abbrev pub heads : List (Option ℤ) → List ℕ
heads rows = heads_before rows (length rows)

-- the number of runs that begin before a row
abbrev pub runs_before : List (Option ℤ) → ℕ → ℕ
runs_before rows i = length (heads_before rows i)

-- for each block, the number of runs that begin before it
abbrev pub offsets : List (Option ℤ) → List ℕ
offsets rows = map (λ block. runs_before rows (1024 * block)) (range_with_len 0 (block_count (length rows)))

-- the number of a row's run within its block, from 0: the runs that begin after the block's first row, up to the row itself.
-- 0 in the padding of the last block.
abbrev pub run_number : List (Option ℤ) → ℕ → ℕ
run_number rows i = if nat_lt i (length rows) then runs_before rows (i + 1) - runs_before rows (1024 * (i / 1024) + 1) else 0

-- the run numbers of all blocks, of which the last is padded
abbrev pub run_numbers : List (Option ℤ) → List ℕ
run_numbers rows = map (run_number rows) (range_with_len 0 (1024 * block_count (length rows)))
