use Rattle.std.proofs.Common.{◌≡◌, not, filter, ◌||◌}
use Rattle.std.specs.List.{range_with_len}
use Rattle.vx_base.specs.PlainValue.{is_null, same_value}
use Rattle.vx_model.specs.Rows.{rows, row_at}
use Rattle.vx_sparse_array.proofs.rows.rows_with_others.Given as goal

abbrev pub invariant-loop-row : goal.invariant-loop-row
invariant-loop-row l = l.numbers.items ≡ filter (λ i. is_null (row_at (rows l.array) i) || not (same_value (row_at (rows l.array) i) l.fill.value)) (range_with_len 0 l.row)
