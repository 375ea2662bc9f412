use Rattle.std.proofs.Common.{refl}
use Rattle.vx_rows.proofs.WholeLemmas.{wholes-within}
use Rattle.vx_rows.proofs.kernels.within.within_wholes.Goals as goal

pub returns : goal.returns
returns g c = wholes-within c.test_each.result c.args.options c.args.low c.args.high _ _ c.ranges.low c.ranges.high refl c.test_each.ensures
