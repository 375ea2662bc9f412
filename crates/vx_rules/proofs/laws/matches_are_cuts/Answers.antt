use Rattle.vx_rules.proofs.PatternLaws.{matches_are_cuts}
use Rattle.vx_rules.proofs.laws.matches_are_cuts.Goals as goal

pub returns : goal.returns
returns c = matches_are_cuts
