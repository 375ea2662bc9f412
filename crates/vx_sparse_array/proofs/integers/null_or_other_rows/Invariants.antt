use Rattle.std.proofs.Common.{◌≡◌, map, not, filter, slice_index_or, false, pos, ◌||◌}
use Rattle.std.specs.List.{range_with_len}
use Rattle.std.specs.Ordering.{int_eq}
use Rattle.vx_sparse_array.proofs.integers.null_or_other_rows.Given as goal

abbrev pub invariant-loop-row : goal.invariant-loop-row
invariant-loop-row g l = l.numbers.items ≡ filter (λ i. not (slice_index_or l.bits i false) || not (int_eq (slice_index_or (map g.T.Integer.whole l.items) i (pos 0)) (g.T.Integer.whole l.fill))) (range_with_len 0 l.row)
