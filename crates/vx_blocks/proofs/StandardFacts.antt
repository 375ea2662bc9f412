-- Worked values, so that a wrong rule in the definitions does not check.
use Rattle.std.specs.Prelude.{◌≡◌, ℕ, ℤ, pos, negsuc, true, false, Option, Some, None, List, [], ◌∷◌, ◌++◌, map, refl}
use Rattle.std.proofs.Common.{replicate}
use Rattle.vx_base.specs.declared.ptype.PType.TheVariants.{U8, I8, I32}
use Rattle.vx_base.specs.Undelta.{undelta}
use Rattle.vx_base.specs.PackedBlocks.{block_of, block_offsets, block_row}
use Rattle.vx_blocks.specs.Deltas.{filled, bases, delta, deltas}
use Rattle.vx_blocks.specs.InBlocks.{block_bytes}
use Rattle.vx_blocks.specs.Optional.{optional_rows}
use Rattle.vx_blocks.specs.Runs.{run_ends, heads, offsets, run_number}
use Rattle.vx_blocks.specs.Sequence.{sequence_of}

-- 7, 7, null, null, 8, where 7 and 9 lie beneath the nulls
abbrev column : List (Option ℤ)
column = optional_rows (pos 7 ∷ pos 7 ∷ pos 7 ∷ pos 9 ∷ pos 8 ∷ []) (true ∷ true ∷ false ∷ false ∷ true ∷ [])

-- 1, then 7 in rows 1 to 1024, then 9
abbrev long : List (Option ℤ)
long = Some (pos 1) ∷ replicate 1024 (Some (pos 7)) ++ Some (pos 9) ∷ []

-- ---- runs

pub run_ends-column : run_ends column ≡ 2 ∷ 4 ∷ 5 ∷ []
run_ends-column = refl

pub run_ends-none : run_ends [] ≡ []
run_ends-none = refl

-- the first rows, how many runs lie before the one block, and the number of each row's run; row 5 is padding
pub block_runs-column : (heads column ≡ 0 ∷ 2 ∷ 4 ∷ []) × (offsets column ≡ 0 ∷ []) × (map (run_number column) (0 ∷ 1 ∷ 2 ∷ 3 ∷ 4 ∷ 5 ∷ []) ≡ 0 ∷ 0 ∷ 1 ∷ 1 ∷ 2 ∷ 0 ∷ [])
block_runs-column = (refl, refl, refl)

-- the run of 7 goes over row 1024, and ends there in blocks
pub run_ends-long : run_ends long ≡ 1 ∷ 1025 ∷ 1026 ∷ []
run_ends-long = refl

pub block_runs-long : (heads long ≡ 0 ∷ 1 ∷ 1024 ∷ 1025 ∷ []) × (offsets long ≡ 0 ∷ 2 ∷ [])
block_runs-long = (refl, refl)

-- and numbers begin anew
pub run_numbers-long : map (run_number long) (0 ∷ 1 ∷ 1023 ∷ 1024 ∷ 1025 ∷ 1026 ∷ []) ≡ 0 ∷ 1 ∷ 1 ∷ 0 ∷ 1 ∷ 0 ∷ []
run_numbers-long = refl

-- ---- sequences

-- the step -1 lies in the signed type
pub sequence_of-falling : (sequence_of I8 (pos 3 ∷ pos 2 ∷ []) ≡ Some (pos 3, negsuc 0)) × (sequence_of U8 (pos 3 ∷ pos 2 ∷ []) ≡ None)
sequence_of-falling = (refl, refl)

pub sequence_of-rising : (sequence_of I32 (pos 5 ∷ pos 7 ∷ pos 9 ∷ []) ≡ Some (pos 5, pos 2)) × (sequence_of I32 (pos 5 ∷ pos 7 ∷ pos 10 ∷ []) ≡ None)
sequence_of-rising = (refl, refl)

pub sequence_of-short : (sequence_of U8 (pos 5 ∷ []) ≡ None) × (sequence_of U8 [] ≡ None)
sequence_of-short = (refl, refl)

-- 255 lies in the type, and -255 doesn't
pub sequence_of-wide : (sequence_of U8 (pos 0 ∷ pos 255 ∷ []) ≡ Some (pos 0, pos 255)) × (sequence_of U8 (pos 255 ∷ pos 0 ∷ []) ≡ None)
sequence_of-wide = (refl, refl)

-- ---- deltas

-- null, 3, null, 10, filled
abbrev filled_column : List ℤ
filled_column = filled (None ∷ Some (pos 3) ∷ None ∷ Some (pos 10) ∷ [])

pub filled-nulls : filled_column ≡ pos 0 ∷ pos 3 ∷ pos 3 ∷ pos 10 ∷ []
filled-nulls = refl

pub bases-column : bases filled_column ≡ pos 0 ∷ []
bases-column = refl

pub deltas-column : deltas U8 filled_column ≡ pos 0 ∷ pos 3 ∷ pos 0 ∷ pos 7 ∷ replicate 1020 (pos 0)
deltas-column = refl

-- rows 3 and 1023 are padding
pub delta-rows : map (delta I32 (pos 5 ∷ pos 7 ∷ pos 7 ∷ [])) (0 ∷ 1 ∷ 2 ∷ 3 ∷ 1023 ∷ []) ≡ pos 0 ∷ pos 2 ∷ pos 0 ∷ pos 0 ∷ pos 0 ∷ []
delta-rows = refl

-- differences and sums that leave the type
pub delta-wraps : (delta U8 (pos 3 ∷ pos 2 ∷ []) 1 ≡ pos 255) × (delta I8 (negsuc 127 ∷ pos 127 ∷ []) 1 ≡ negsuc 0)
delta-wraps = (refl, refl)

pub undelta-rows : undelta I32 (pos 5 ∷ []) (pos 0 ∷ pos 2 ∷ pos 0 ∷ []) ≡ pos 5 ∷ pos 7 ∷ pos 7 ∷ []
undelta-rows = refl

pub undelta-wraps : undelta U8 (pos 250 ∷ []) (pos 1 ∷ pos 10 ∷ []) ≡ pos 251 ∷ pos 5 ∷ []
undelta-wraps = refl

-- ---- packing at a width for each block

-- a block at 1 bit, of 0 and 1 in turn, and one at 8 bits that begins with 3, 1, 4
abbrev two_blocks : List ℕ
two_blocks = replicate 128 170 ++ 3 ∷ 1 ∷ 4 ∷ replicate 1021 0

-- the second block has what is left
pub block_of-long : block_of long 1 ≡ Some (pos 7) ∷ Some (pos 9) ∷ []
block_of-long = refl

pub block_offsets-two : (block_offsets (1 ∷ 8 ∷ []) ≡ 0 ∷ 1 ∷ 9 ∷ []) × (block_offsets [] ≡ 0 ∷ [])
block_offsets-two = (refl, refl)

pub block_row-two : map (block_row two_blocks (0 ∷ 1 ∷ 9 ∷ [])) (0 ∷ 1 ∷ 1023 ∷ 1024 ∷ 1025 ∷ 1026 ∷ 2047 ∷ []) ≡ 0 ∷ 1 ∷ 1 ∷ 3 ∷ 1 ∷ 4 ∷ 0 ∷ []
block_row-two = refl

-- a block of width 0 takes no byte, and its rows are 0
pub block_row-none : map (block_row (3 ∷ 1 ∷ 4 ∷ []) (0 ∷ 0 ∷ 8 ∷ [])) (0 ∷ 5 ∷ 1024 ∷ 1026 ∷ []) ≡ 0 ∷ 0 ∷ 3 ∷ 4 ∷ []
block_row-none = refl

pub block_bytes-two : (block_bytes (1 ∷ 8 ∷ []) two_blocks 0 ≡ replicate 128 170) × (block_bytes (1 ∷ 8 ∷ []) two_blocks 1 ≡ 3 ∷ 1 ∷ 4 ∷ replicate 1021 0)
block_bytes-two = (refl, refl)
