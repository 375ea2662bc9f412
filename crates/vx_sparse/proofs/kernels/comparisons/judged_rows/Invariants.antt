use Rattle.std.proofs.Common.{◌≡◌, ◌+◌, map, take}
use Rattle.vx_base.specs.CellValue.{cell_value}
use Rattle.vx_base.specs.TypeOf.{value_of}
use Rattle.vx_model.specs.Rows.{rows}
use Rattle.vx_rules.specs.Comparisons.{compared}
use Rattle.vx_sparse.proofs.kernels.comparisons.judged_rows.Given as goal

abbrev pub invariant-loop-row : goal.invariant-loop-row
invariant-loop-row g l = record {
  judged : map value_of l.out.items ≡ map (λ v. compared l.operator v (cell_value l.right)) (take l.row (rows l.tree));
  steps : l.steps ≡ l.fn.steps + l.row;
}
