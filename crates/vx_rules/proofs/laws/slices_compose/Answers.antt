use Rattle.vx_rules.proofs.SliceLaws.{slices_compose}
use Rattle.vx_rules.proofs.laws.slices_compose.Goals as goal

pub returns : goal.returns
returns c = slices_compose
