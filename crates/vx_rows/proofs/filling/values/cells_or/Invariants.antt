use Rattle.std.proofs.Common.{◌≡◌, map, take}
use Rattle.vx_base.specs.Defaults.{or_default}
use Rattle.vx_base.specs.TypeOf.{value_of}
use Rattle.vx_rows.specs.Readable.{lent_rows}
use Rattle.vx_rows.proofs.filling.values.cells_or.Given as goal

abbrev pub invariant-loop-row : goal.invariant-loop-row
invariant-loop-row l = map value_of l.values.items ≡ map (or_default l.fill.value) (take l.row (lent_rows l.rows))
