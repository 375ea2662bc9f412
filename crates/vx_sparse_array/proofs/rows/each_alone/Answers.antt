use Rattle.std.proofs.Common.{arith}
use Rattle.vx_sparse_array.proofs.RowsAt.{below_at}
use Rattle.vx_sparse_array.proofs.rows.each_alone.Goals as goal

pub overflow_add-row : goal.overflow_add-row
overflow_add-row c = omega (arith, below_at c.args.len c.args.numbers.now c.loop-place.place (omega arith) c.requires)
