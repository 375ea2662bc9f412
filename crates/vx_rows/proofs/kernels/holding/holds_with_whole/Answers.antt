use Rattle.std.proofs.Common.{refl}
use Rattle.vx_rows.proofs.WholeLemmas.{whole-held}
use Rattle.vx_rows.proofs.kernels.holding.holds_with_whole.Goals as goal

pub returns : goal.returns
returns g c = whole-held c.test_each.result c.args.operator c.args.whole _ _ c.ranges.whole refl c.test_each.ensures
