use Rattle.std.proofs.Common.{◌≡◌, ◌≤◌, take}
use Rattle.vx_model.specs.Rows.{rows}
use Rattle.vx_stats.specs.Stats.{null_count}
use Rattle.vx_sparse_array.proofs.encode.null_count.Given as goal

abbrev pub invariant-loop-row : goal.invariant-loop-row
invariant-loop-row l = record { counted : l.count ≡ null_count (take l.row (rows l.array)); few : l.count ≤ l.row }
