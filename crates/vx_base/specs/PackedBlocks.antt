-- Bit packing at a width for each block of 1,024 rows. The blocks stand one after another, 128 * width bytes each, so an offset
-- counts units of 128 bytes.
use Rattle.std.specs.Prelude.{ℕ, ◌+◌, ◌-◌, ◌*◌, ◌/◌, ◌%◌, List, length, map, take, drop, slice_index, sum}
use Rattle.std.specs.List.{range_with_len}
use Rattle.vx_base.specs.Packed.{packed_row}

-- the items of a block: 1,024 of them from 1024 * block on, or as many as there are
abbrev pub block_of : {A : Type 0} → List A → ℕ → List A
block_of items block = take 1024 (drop (1024 * block) items)

-- where a block begins: the sum of the widths before it
abbrev pub block_offset : List ℕ → ℕ → ℕ
block_offset widths block = sum (take block widths)

-- where each block begins, and where the last one ends
abbrev pub block_offsets : List ℕ → List ℕ
block_offsets widths = map (block_offset widths) (range_with_len 0 (length widths + 1))

-- the width of a block: from where it begins to where the next one does
abbrev pub block_width : List ℕ → ℕ → ℕ
block_width offsets block = slice_index offsets (block + 1) - slice_index offsets block

-- a row: the bits of row % 1024 in the bytes from its block on
abbrev pub block_row : List ℕ → List ℕ → ℕ → ℕ
block_row bytes offsets row = packed_row (drop (128 * slice_index offsets (row / 1024)) bytes) (block_width offsets (row / 1024)) (row % 1024)
