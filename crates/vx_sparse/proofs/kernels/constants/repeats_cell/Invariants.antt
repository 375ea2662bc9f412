use Rattle.std.proofs.Common.{◌≡◌, true, take}
use Rattle.std.specs.List.{list_all}
use Rattle.vx_base.specs.CellValue.{cell_value}
use Rattle.vx_base.specs.PlainValue.{same_value}
use Rattle.vx_model.specs.Rows.{rows}
use Rattle.vx_sparse.proofs.kernels.constants.repeats_cell.Given as goal

abbrev pub invariant-loop-row : goal.invariant-loop-row
invariant-loop-row l = list_all (same_value (cell_value l.wanted)) (take l.row (rows l.tree)) ≡ true
