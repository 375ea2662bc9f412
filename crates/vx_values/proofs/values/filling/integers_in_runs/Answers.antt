use Rattle.std.proofs.Common.{ap, map, pos, refl}
use Rattle.vx_base.specs.PlainValue.{int}
use Rattle.vx_values.specs.ValuesOf.{ints}
use Rattle.vx_values.specs.IntsOf.{wholes_of}
use Rattle.vx_values.proofs.Placed.{stand-by_runs}
use Rattle.vx_values.proofs.values.filling.integers_in_runs.Goals as goal

pub returns : goal.returns
returns c =
    let made = c.in_ok-in_runs in
    (ap ints made.ensures.0, stand-by_runs int (map int (wholes_of c.args.ends.now)) (wholes_of c.args.items.now) (wholes_of made.field-0) (pos 0) (int (pos 0)) made.ensures.1 refl)
