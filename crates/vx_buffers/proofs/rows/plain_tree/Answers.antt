use Rattle.std.proofs.Common.{ap}
use Rattle.vx_model.specs.Column.{Column}
use Rattle.vx_buffers.proofs.rows.plain_tree.Goals as goal

pub returns-in-Ok-clause-dtype : goal.returns-in-Ok-clause-dtype
returns-in-Ok-clause-dtype c = ap (λ (col : Column). col.dtype) c.in-Ok.ensures.kept

pub returns-in-Ok-clause-rows : goal.returns-in-Ok-clause-rows
returns-in-Ok-clause-rows c = ap (λ (col : Column). col.values) c.in-Ok.ensures.kept
