use Rattle.vx_rules.proofs.FitLaws.{answers_are_columns}
use Rattle.vx_rules.proofs.laws.answers_are_columns.Goals as goal

pub returns : goal.returns
returns c = answers_are_columns
