-- Delta encoding: differences from row to row in blocks of 1,024 rows, in wrapping arithmetic of a type.
use Rattle.std.specs.Prelude.{ℕ, ◌-◌, ◌*◌, ◌%◌, ◌==◌, nat_le, ◌||◌, ℤ, pos, ◌-ℤ◌, if◌then◌else◌, List, [], ◌∷◌, length, map, slice_index_or, Option, Some, None}
use Rattle.std.specs.List.{range_with_len}
use Rattle.vx_base.specs.declared.ptype.PType.{PType}
use Rattle.vx_base.specs.Packed.{block_count}
use Rattle.vx_base.specs.Wrapping.{wrap}

-- each null replaced by the last number before it, and by `last` where there is none
abbrev pub filled_after : ℤ → List (Option ℤ) → List ℤ
filled_after last [] = []
filled_after last (None ∷ rows) = last ∷ filled_after last rows
filled_after last (Some z ∷ rows) = z ∷ filled_after z rows

-- each null replaced by the last number before it, and by 0 where there is none
abbrev pub filled : List (Option ℤ) → List ℤ
filled rows = filled_after (pos 0) rows

-- the first row of each block
abbrev pub bases : List ℤ → List ℤ
bases rows = map (λ block. slice_index_or rows (1024 * block) (pos 0)) (range_with_len 0 (block_count (length rows)))

-- the difference from the row before, wrapped; 0 at the first row of a block and in the padding of the last block
abbrev pub delta : PType → List ℤ → ℕ → ℤ
delta kind rows i = if i % 1024 == 0 || nat_le (length rows) i then pos 0 else wrap kind (slice_index_or rows i (pos 0) -ℤ slice_index_or rows (i - 1) (pos 0))

-- the deltas of all blocks, of which the last is padded
abbrev pub deltas : PType → List ℤ → List ℤ
deltas kind rows = map (delta kind rows) (range_with_len 0 (1024 * block_count (length rows)))
