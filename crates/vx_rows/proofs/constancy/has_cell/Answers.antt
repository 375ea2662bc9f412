use Rattle.vx_base.specs.CellValue.{cell_value}
use Rattle.vx_base.specs.PlainValue.{stored_value}
use Rattle.vx_base.specs.Storable.{same_from}
use Rattle.vx_rows.proofs.constancy.has_cell.Goals as goal

pub returns : goal.returns
returns c = same_from stored_value (cell_value c.args.left) (cell_value c.args.right) c.same_cell.result (λ t. c.same_cell.ensures.0 t) (λ e. c.same_cell.ensures.1 e)
