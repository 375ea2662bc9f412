-- Which rows a sample has: about one percent, 64 consecutive rows from each of the partitions of a column.
use Rattle.std.specs.Prelude.{ℕ, ◌+◌, ◌-◌, ◌*◌, ◌/◌, ◌%◌, max, min, nat_lt, nat_le, Bool, ◌||◌, if◌then◌else◌, List, [], ◌∷◌, length, slice_index}
use Rattle.vx_base.specs.Gathered.{gathered}
use Rattle.vx_model.specs.Column.{Column, column}
use Rattle.vx_model.specs.Rows.{below}

-- ---- partitions: nearly equal ranges of the rows, the longer ones first

-- the rows of partition i of n: the first rows % n of them have one more
abbrev pub partition_rows : ℕ → ℕ → ℕ → ℕ
partition_rows rows n i = if nat_lt i (rows % n) then rows / n + 1 else rows / n

-- the first row of partition i: i partitions of rows / n rows stand before it, of which the first rows % n have one more
abbrev pub partition_start : ℕ → ℕ → ℕ → ℕ
partition_start rows n i = i * (rows / n) + min i (rows % n)

-- from its first row to the one after its last
abbrev pub partition : ℕ → ℕ → ℕ → ℕ × ℕ
partition rows n i = (partition_start rows n i, partition_start rows n i + partition_rows rows n i)

-- all n partitions, in order
abbrev pub partitions : ℕ → ℕ → List (ℕ × ℕ)
partitions rows n = below (partition rows n) n

-- ---- slices

-- the least multiple of k that is at least n
abbrev pub rounded_up : ℕ → ℕ → ℕ
rounded_up k n = (n + (k - 1)) / k * k

-- the number of slices of 64 rows that are about one percent of the rows: a multiple of 16, and at least 16
abbrev pub slice_count : ℕ → ℕ
slice_count rows = rounded_up 16 (max 16 (rows / 100 / 64))

-- a column with no more rows than its slices is its own sample
abbrev pub is_short : ℕ → Bool
is_short rows = nat_le rows (64 * slice_count rows)

-- the sample words are taken in turn, and again from the first
abbrev pub word_at : List ℕ → ℕ → ℕ
word_at words i = slice_index words (i % length words)

-- the first row of slice i: its word places it in its partition, so that all 64 rows lie within
abbrev pub slice_start : ℕ → List ℕ → ℕ → ℕ
slice_start rows words i =
    partition_start rows (slice_count rows) i + word_at words i % (partition_rows rows (slice_count rows) i - 63)

-- slice i of the sample: 64 rows from its start on
abbrev pub slice_of : ℕ → List ℕ → ℕ → ℕ × ℕ
slice_of rows words i = (slice_start rows words i, slice_start rows words i + 64)

-- a slice from each partition, or all rows
abbrev pub slices : ℕ → List ℕ → List (ℕ × ℕ)
slices rows words = if is_short rows then (0, rows) ∷ [] else below (slice_of rows words) (slice_count rows)

-- ---- the sample

-- the rows of the slices; a sample of a sample is the sample itself
abbrev pub sample : Bool → List ℕ → Column → Column
sample sampled words c =
    if sampled || is_short (length c.values) then c else column c.dtype (gathered (slices (length c.values) words) c.values)
