-- Bit packing: rows of `width` bits side by side in one number, the first row lowest. Bytes are such a number too, of rows
-- of 8 bits.
use Rattle.std.specs.Prelude.{ℕ, zero, suc, ◌+◌, ◌*◌, ◌/◌, ◌%◌, ◌^◌, nat_lt, not, ◌&&◌, Bool, false, if◌then◌else◌, List, [], ◌∷◌, length, filter, slice_index_or}
use Rattle.std.specs.List.{range_with_len}

-- rows of `width` bits as one number, little-endian: the sum of row i * 2^(width * i)
abbrev pub packed_number : ℕ → List ℕ → ℕ
packed_number width [] = 0
packed_number width (row ∷ rows) = row + 2 ^ width * packed_number width rows

-- the low `count` bytes of a number, little-endian
unfoldable pub bytes_in : ℕ → ℕ → List ℕ
bytes_in zero number = []
bytes_in (suc count) number = number % 256 ∷ bytes_in count (number / 256)

-- a row of a packed number
abbrev pub row_in : ℕ → ℕ → ℕ → ℕ
row_in width number row = number / 2 ^ (width * row) % 2 ^ width

-- a row of packed bytes
abbrev pub packed_row : List ℕ → ℕ → ℕ → ℕ
packed_row bytes width row = row_in width (packed_number 8 bytes) row

-- what is packed of a row: its bits, or 0 where it is null or its bits don't fit the width
abbrev pub kept_row : ℕ → ℕ → Bool → ℕ
kept_row width bits valid = if valid then (if nat_lt bits (2 ^ width) then bits else 0) else 0

-- what is packed of each row, from its bits and its validity
abbrev pub kept_rows : ℕ → List ℕ → List Bool → List ℕ
kept_rows width [] valid = []
kept_rows width (b ∷ bits) [] = []
kept_rows width (b ∷ bits) (v ∷ valid) = kept_row width b v ∷ kept_rows width bits valid

-- whether a row is left to a patch: it is valid, and its bits don't fit the width
abbrev pub is_wide : ℕ → ℕ → Bool → Bool
is_wide width bits valid = valid && not (nat_lt bits (2 ^ width))

-- the numbers of the rows that are left to patches, ascending
abbrev pub wide_rows : ℕ → List ℕ → List Bool → List ℕ
wide_rows width bits valid = filter (λ i. is_wide width (slice_index_or bits i 0) (slice_index_or valid i false)) (range_with_len 0 (length bits))

-- the number of blocks of 1,024 rows, where the last one may be partly filled
abbrev pub block_count : ℕ → ℕ
block_count rows = (rows + 1023) / 1024

-- the bytes of packed rows: 1024 * width / 8 = 128 * width for each block, the last one filled up with zeros
abbrev pub packed_size : ℕ → ℕ → ℕ
packed_size width rows = 128 * width * block_count rows
