use Rattle.vx_time.proofs.Splits.{split-sum_of, split_of_one}
use Rattle.vx_time.proofs.laws.canonical_parts_are_a_split.Goals as goal

pub returns-clause-split : goal.returns-clause-split
returns-clause-split c = split-sum_of

pub returns-clause-one : goal.returns-clause-one
returns-clause-one c = split_of_one
