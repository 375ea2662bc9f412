-- Lossless: unpacking after packing, undelta after deltas, and unzigzag after zigzag.
use Rattle.std.specs.Prelude.{ℕ, ◌+◌, ◌-◌, ◌/◌, ◌^◌, ◌≡◌, ◌<◌, ◌≤◌, ℤ, pos, Bool, true, false, List, length, map, slice_index, slice_index_or, All}
use Rattle.std.specs.List.{range_with_len}
use Rattle.vx_base.specs.declared.ptype.PType.{PType}
use Rattle.vx_base.specs.Integers.{bits_in, lies_in}
use Rattle.vx_base.specs.Packed.{block_count, kept_row, kept_rows}
use Rattle.vx_base.specs.PackedBlocks.{block_offsets, block_row}
use Rattle.vx_base.specs.ZigZag.{zigzag, unzigzag}
use Rattle.vx_base.specs.Undelta.{undelta}
use Rattle.vx_blocks.specs.Deltas.{bases, deltas, filled}
use Rattle.vx_blocks.specs.InBlocks.{ArePackedBlocks}
use Rattle.vx_blocks.specs.IsPacked.{IsPacked, IsUnpacked}
use Rattle.vx_blocks.specs.Optional.{optional_rows}

-- `rows` are read from bytes that were packed of a column of integers
pub record Unpacks (kind : PType) (values : List ℤ) (valid : List Bool) (width start end : ℕ) (rows : List ℕ) : Type 0 where
  pub bytes : List ℕ
  pub same : length valid ≡ length values
  pub within : end ≤ length values
  pub packed : IsPacked width (kept_rows width (map (bits_in kind) values) valid) bytes
  pub unpacked : IsUnpacked bytes width start end rows

-- the two's complement of a row
abbrev pub bits_at : PType → List ℤ → ℕ → ℕ
bits_at kind values row = bits_in kind (slice_index_or values row (pos 0))

-- whether a row is valid
abbrev pub is_set_at : List Bool → ℕ → Bool
is_set_at valid row = slice_index_or valid row false

-- each valid row that fits the width comes back
abbrev pub GivesBackValues : Type 0
GivesBackValues = (kind : PType) (values : List ℤ) (valid : List Bool) (width start end : ℕ) (rows : List ℕ) → Unpacks kind values valid width start end rows
    → (i : ℕ) → i < end - start → is_set_at valid (start + i) ≡ true → bits_at kind values (start + i) < 2 ^ width → slice_index rows i ≡ bits_at kind values (start + i)

-- every row is read as what was packed of it: 0 where it is null or doesn't fit the width
abbrev pub GivesBackKeptRows : Type 0
GivesBackKeptRows = (kind : PType) (values : List ℤ) (valid : List Bool) (width start end : ℕ) (rows : List ℕ) → Unpacks kind values valid width start end rows
    → (i : ℕ) → i < end - start → slice_index rows i ≡ kept_row width (bits_at kind values (start + i)) (is_set_at valid (start + i))

-- `rows` are read from the packed blocks of a column of integers, where each has its width
pub record UnpacksBlocks (kind : PType) (values : List ℤ) (valid : List Bool) (widths rows : List ℕ) : Type 0 where
  pub bytes : List ℕ
  pub same : length valid ≡ length values
  pub count : length widths ≡ block_count (length values)
  pub packed : ArePackedBlocks widths (map (bits_in kind) values) valid bytes
  pub unpacked : rows ≡ map (block_row bytes (block_offsets widths)) (range_with_len 0 (length values))

-- each valid row that fits the width of its block comes back
abbrev pub GivesBackBlockValues : Type 0
GivesBackBlockValues = (kind : PType) (values : List ℤ) (valid : List Bool) (widths rows : List ℕ) → UnpacksBlocks kind values valid widths rows
    → (i : ℕ) → i < length values → is_set_at valid i ≡ true → bits_at kind values i < 2 ^ slice_index widths (i / 1024) → slice_index rows i ≡ bits_at kind values i

-- every row is read as what was packed of it: 0 where it is null or doesn't fit the width of its block
abbrev pub GivesBackBlockRows : Type 0
GivesBackBlockRows = (kind : PType) (values : List ℤ) (valid : List Bool) (widths rows : List ℕ) → UnpacksBlocks kind values valid widths rows
    → (i : ℕ) → i < length values → slice_index rows i ≡ kept_row (slice_index widths (i / 1024)) (bits_at kind values i) (is_set_at valid i)

-- each number comes back from its zigzag
abbrev pub GivesBackZigZag : Type 0
GivesBackZigZag = (v : ℤ) → unzigzag (zigzag v) ≡ v

-- each valid row comes back from the bases and deltas of its column
abbrev pub GivesBackDeltas : Type 0
GivesBackDeltas = (kind : PType) (values : List ℤ) (valid : List Bool) → length valid ≡ length values → All (λ z. lies_in kind z ≡ true) values
    → let rows = filled (optional_rows values valid) in
    (i : ℕ) → i < length values → is_set_at valid i ≡ true → slice_index_or (undelta kind (bases rows) (deltas kind rows)) i (pos 0) ≡ slice_index_or values i (pos 0)
