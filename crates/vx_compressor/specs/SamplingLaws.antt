-- What holds of partitions and slices, for any sample words.
use Rattle.std.specs.Prelude.{◌≡◌, ◌<◌, ◌≤◌, ℕ, ◌+◌, ◌-◌, ◌*◌, ◌%◌, ◌/◌, false, List}
use Rattle.vx_compressor.specs.Sampling.{partition, slice_count, is_short, slice_of}

-- n partitions cover the rows in order: the first begins at row 0, each begins where the one before ends, and the last ends behind
-- the last row
pub record Covers (rows n : ℕ) : Type 0 where
  pub from_first : (partition rows n 0).0 ≡ 0
  pub in_order : (i : ℕ) → (partition rows n (i + 1)).0 ≡ (partition rows n i).1
  pub to_last : (partition rows n (n - 1)).1 ≡ rows

-- partitions cover the rows, for any number of them above 0
abbrev pub PartitionsCover : Type 0
PartitionsCover = (rows n : ℕ) → 0 < n → Covers rows n

-- one range lies in another
pub record LiesIn (inner outer : ℕ × ℕ) : Type 0 where
  pub not_before : outer.0 ≤ inner.0
  pub not_beyond : inner.1 ≤ outer.1

-- where a column is not short, each slice has 64 rows and lies in its own partition, for any sample words
abbrev pub SlicesLieInPartitions : Type 0
SlicesLieInPartitions = (rows : ℕ) (words : List ℕ) (i : ℕ) → is_short rows ≡ false
    → ((slice_of rows words i).1 ≡ (slice_of rows words i).0 + 64) × LiesIn (slice_of rows words i) (partition rows (slice_count rows) i)

-- the least count that is a multiple of 16, at least 16 and at least a hundredth of the rows in slices of 64
pub record IsLeastCount (rows count : ℕ) : Type 0 where
  pub sixteens : count % 16 ≡ 0
  pub some : 16 ≤ count
  pub enough : rows / 100 / 64 ≤ count
  pub least : (k : ℕ) → 16 ≤ 16 * k → rows / 100 / 64 ≤ 16 * k → count ≤ 16 * k

-- the count of slices is the least that is asked, for any number of rows
abbrev pub CountsAreLeast : Type 0
CountsAreLeast = (rows : ℕ) → IsLeastCount rows (slice_count rows)
