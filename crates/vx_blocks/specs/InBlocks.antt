-- A width for each block of 1,024 rows: the cheapest one, and rows packed at it.
use Rattle.std.specs.Prelude.{ℕ, ◌+◌, ◌*◌, ◌≡◌, ◌<◌, ◌≤◌, Bool, List, length, slice_index, sum, take, drop}
use Rattle.vx_base.specs.declared.ptype.PType.{PType}
use Rattle.vx_base.specs.Integers.{bits_of, bytes_of}
use Rattle.vx_base.specs.Packed.{block_count, kept_rows}
use Rattle.vx_base.specs.PackedBlocks.{block_of, block_offset}
use Rattle.vx_blocks.specs.Cost.{IsBest, cost}
use Rattle.vx_blocks.specs.Histogram.{IsHistogram}
use Rattle.vx_blocks.specs.IsPacked.{IsPacked}

-- the narrowest of the cheapest widths of some rows, by the histogram of these rows alone
pub record IsBestOf (kind : PType) (rows : List ℕ) (width : ℕ) : Type 0 where
  pub counts : List ℕ
  pub histogram : IsHistogram (bits_of kind) rows counts
  pub best : IsBest (cost counts (bytes_of kind)) (bits_of kind) width

-- entry b is the best width of block b
pub record AreBestWidths (kind : PType) (rows widths : List ℕ) : Type 0 where
  pub size : length widths ≡ block_count (length rows)
  pub each : (block : ℕ) → block < length widths → IsBestOf kind (block_of rows block) (slice_index widths block)

-- the bytes of a block, among those of all blocks
abbrev pub block_bytes : List ℕ → List ℕ → ℕ → List ℕ
block_bytes widths bytes block = take (128 * slice_index widths block) (drop (128 * block_offset widths block) bytes)

-- the bytes are those of the blocks, one block after another, each packed at its width
pub record ArePackedBlocks (widths bits : List ℕ) (valid : List Bool) (bytes : List ℕ) : Type 0 where
  pub size : length bytes ≡ 128 * sum widths
  pub each : (block : ℕ) → block < length widths → IsPacked (slice_index widths block) (kept_rows (slice_index widths block) (block_of bits block) (block_of valid block)) (block_bytes widths bytes block)

-- each entry is the one before it plus 0 to `most`
pub record AreBlockOffsets (most : ℕ) (offsets : List ℕ) : Type 0 where
  pub rising : (block : ℕ) → block + 1 < length offsets → slice_index offsets block ≤ slice_index offsets (block + 1)
  pub narrow : (block : ℕ) → block + 1 < length offsets → slice_index offsets (block + 1) ≤ slice_index offsets block + most
