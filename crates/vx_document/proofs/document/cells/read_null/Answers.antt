use Rattle.std.proofs.Common.{sym, ◌∙◌}
use Rattle.vx_document.proofs.DocumentCells.{row_of-null}
use Rattle.vx_document.proofs.document.cells.read_null.Goals as goal

pub returns-then-is_nullable : goal.returns-then-is_nullable
returns-then-is_nullable c = row_of-null _ _ (sym c.is_nullable.ensures ∙ c.if-is_nullable.true)

pub returns-else-is_nullable : goal.returns-else-is_nullable
returns-else-is_nullable c = row_of-null _ _ (sym c.is_nullable.ensures ∙ c.if-is_nullable.false)
