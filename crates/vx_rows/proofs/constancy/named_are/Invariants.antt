use Rattle.std.proofs.Common.{◌≡◌, take}
use Rattle.std.specs.List.{list_all}
use Rattle.vx_base.specs.CellValue.{cell_value}
use Rattle.vx_base.specs.PlainValue.{same_value}
use Rattle.vx_rows.specs.Extremes.{valid_items}
use Rattle.vx_rows.specs.Readable.{lent_rows}
use Rattle.vx_rows.proofs.constancy.named_are.Given as goal

abbrev pub invariant-loop-row : goal.invariant-loop-row
invariant-loop-row l = l.equal ≡ list_all (same_value (cell_value l.fn.value)) (valid_items (take l.row l.named) (take l.row (lent_rows l.rows)))
