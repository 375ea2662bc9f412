use Rattle.vx_rules.proofs.ExtremeLaws.{extremes_are_bounds}
use Rattle.vx_rules.proofs.laws.extremes_are_bounds.Goals as goal

pub returns : goal.returns
returns c = extremes_are_bounds
