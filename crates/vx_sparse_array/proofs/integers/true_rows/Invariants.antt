use Rattle.std.proofs.Common.{◌≡◌, filter, slice_index_or, false}
use Rattle.std.specs.List.{range_with_len}
use Rattle.vx_sparse_array.proofs.integers.true_rows.Given as goal

abbrev pub invariant-loop-row : goal.invariant-loop-row
invariant-loop-row l = l.numbers.items ≡ filter (λ i. slice_index_or l.bits i false) (range_with_len 0 l.row)
