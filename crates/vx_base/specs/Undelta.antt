-- Delta decoding: rows from the bases and differences of blocks of 1,024 rows, in wrapping arithmetic of a type.
use Rattle.std.specs.Prelude.{ℕ, ◌+◌, ◌*◌, ◌/◌, ℤ, pos, ◌+ℤ◌, List, [], ◌∷◌, length, map, slice_index_or}
use Rattle.std.specs.List.{range_with_len}
use Rattle.vx_base.specs.declared.ptype.PType.{PType}
use Rattle.vx_base.specs.Masks.{rows_between}
use Rattle.vx_base.specs.Wrapping.{wrap}

-- the sum of whole numbers
abbrev pub total : List ℤ → ℤ
total [] = pos 0
total (z ∷ zs) = z +ℤ total zs

-- row i: the base of its block, plus the prefix sum of the block's differences up to row i, wrapped
abbrev pub undelta_row : PType → List ℤ → List ℤ → ℕ → ℤ
undelta_row kind bases deltas i = wrap kind (slice_index_or bases (i / 1024) (pos 0) +ℤ total (rows_between deltas (1024 * (i / 1024)) (i + 1)))

-- all rows, one for each difference
abbrev pub undelta : PType → List ℤ → List ℤ → List ℤ
undelta kind bases deltas = map (undelta_row kind bases deltas) (range_with_len 0 (length deltas))
