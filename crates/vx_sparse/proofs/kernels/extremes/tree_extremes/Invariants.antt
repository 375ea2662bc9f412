use Rattle.std.proofs.Common.{◌≡◌, take}
use Rattle.vx_model.specs.Rows.{rows}
use Rattle.vx_sparse.specs.CellPairs.{cell_pair}
use Rattle.vx_sparse.specs.Kernels.{extremes}
use Rattle.vx_sparse.proofs.kernels.extremes.tree_extremes.Given as goal

abbrev pub invariant-loop-row : goal.invariant-loop-row
invariant-loop-row l = cell_pair l.found ≡ extremes (take l.row (rows l.tree))
