use Rattle.std.proofs.Common.{◌≡◌, not, filter}
use Rattle.std.specs.List.{range_with_len}
use Rattle.vx_base.specs.PlainValue.{is_null}
use Rattle.vx_model.specs.Rows.{rows, row_at}
use Rattle.vx_sparse_array.proofs.rows.rows_with_values.Given as goal

abbrev pub invariant-loop-row : goal.invariant-loop-row
invariant-loop-row l = l.numbers.items ≡ filter (λ i. not (is_null (row_at (rows l.array) i))) (range_with_len 0 l.row)
