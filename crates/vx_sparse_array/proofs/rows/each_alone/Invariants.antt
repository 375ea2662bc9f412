use Rattle.std.proofs.Common.{◌≡◌, ◌+◌, map, take}
use Rattle.vx_sparse_array.proofs.rows.each_alone.Given as goal

abbrev pub invariant-loop-place : goal.invariant-loop-place
invariant-loop-place l = l.ranges.items ≡ map (λ row. (row, row + 1)) (take l.place l.numbers)
