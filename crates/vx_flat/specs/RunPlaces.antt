-- Where the value of each row stands among the values of runs in blocks.
use Rattle.std.specs.Prelude.{ℕ, ◌/◌, ℤ, pos, ◌+ℤ◌, ◌≤ℤ◌, ◌<ℤ◌, ◌^◌, List, slice_index_or}
use Rattle.vx_model.specs.Rows.{block_rows}

-- the place of row i's value: `offsets[i / 1024] + indices[i]`
abbrev pub block_place : List ℤ → List ℤ → ℕ → ℤ
block_place offsets indices i = slice_index_or offsets (i / block_rows) (pos 0) +ℤ slice_index_or indices i (pos 0)

-- an unsigned 64-bit number
abbrev pub IsWord : ℤ → Type 0
IsWord z = (pos 0 ≤ℤ z) × (z <ℤ pos (2 ^ 64))
