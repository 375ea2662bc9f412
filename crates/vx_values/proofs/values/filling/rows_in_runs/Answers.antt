use Rattle.std.proofs.Common.{[], map, refl}
use Rattle.vx_base.specs.PlainValue.{int, bytes}
use Rattle.vx_values.specs.IntsOf.{wholes_of}
use Rattle.vx_values.proofs.Placed.{stand-by_runs}
use Rattle.vx_values.proofs.values.filling.rows_in_runs.Goals as goal

pub returns : goal.returns
returns c = (refl, stand-by_runs bytes (map int (wholes_of c.args.ends.now)) c.args.items.now c.in_ok-in_runs.field-0 [] (bytes []) c.in_ok-in_runs.ensures refl)
