use Rattle.std.specs.declared.cmp.Ordering.TheVariants.{Less, Equal, Greater}
use Rattle.vx_datetime.proofs.kernels.verdicts.verdicts_of.Goals as goal

pub returns : goal.returns
returns c Less = c.holds.ensures
returns c Equal = c.holds-2.ensures
returns c Greater = c.holds-3.ensures
