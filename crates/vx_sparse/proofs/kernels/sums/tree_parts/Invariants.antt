use Rattle.std.proofs.Common.{◌≡◌, take}
use Rattle.std.specs.Prelude.{sum_by}
use Rattle.vx_model.specs.Rows.{rows}
use Rattle.vx_sparse.specs.SumParts.{downs, ups}
use Rattle.vx_sparse.proofs.kernels.sums.tree_parts.Given as goal

abbrev pub invariant-loop-row : goal.invariant-loop-row
invariant-loop-row l = record { up : l.up ≡ sum_by ups (take l.row (rows l.tree)); down : l.down ≡ sum_by downs (take l.row (rows l.tree)) }
