-- Sums with the reference of a block of 1,024 rows.
use Rattle.std.specs.Prelude.{ℕ, ◌/◌, ℤ, pos, ◌+ℤ◌, List, length, map, slice_index_or}
use Rattle.std.specs.List.{range_with_len}
use Rattle.vx_base.specs.Wrapping.{wrap}
use Rattle.vx_base.specs.declared.ptype.PType.{PType}

-- row i: the reference of its block plus the difference, wrapped
abbrev pub moved_row : PType → List ℤ → List ℤ → ℕ → ℤ
moved_row p references differences i = wrap p (slice_index_or references (i / 1024) (pos 0) +ℤ slice_index_or differences i (pos 0))

-- each row
abbrev pub moved_by_block : PType → List ℤ → List ℤ → List ℤ
moved_by_block p references differences = map (moved_row p references differences) (range_with_len 0 (length differences))
