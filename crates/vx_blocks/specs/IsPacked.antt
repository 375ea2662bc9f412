-- The layout of packed rows: blocks of 1,024 rows, 128 * width bytes each, little-endian. Row r of a block has the bits
-- r * width to (r + 1) * width - 1, and the padding of the last block is zeros.
use Rattle.std.specs.Prelude.{ℕ, ◌+◌, ◌-◌, ◌≡◌, ◌<◌, ℤ, pos, List, length, slice_index, slice_index_or}
use Rattle.vx_base.specs.Packed.{packed_number, packed_row, packed_size}

-- the bytes are the packed rows, padded with zeros
pub record IsPacked (width : ℕ) (rows bytes : List ℕ) : Type 0 where
  pub number : packed_number 8 bytes ≡ packed_number width rows
  pub size : length bytes ≡ packed_size width (length rows)

-- `rows` are the packed rows `start` to `end - 1`
pub record IsUnpacked (bytes : List ℕ) (width start end : ℕ) (rows : List ℕ) : Type 0 where
  pub size : length rows ≡ end - start
  pub each : (i : ℕ) → i < end - start → slice_index rows i ≡ packed_row bytes width (start + i)

-- `wholes` are the packed rows `start` to `end - 1`, each as the whole number that `value` makes of its bits
pub record IsUnpackedAs (value : ℕ → ℤ) (bytes : List ℕ) (width start end : ℕ) (wholes : List ℤ) : Type 0 where
  pub size : length wholes ≡ end - start
  pub each : (i : ℕ) → i < end - start → slice_index_or wholes i (pos 0) ≡ value (packed_row bytes width (start + i))
