use Rattle.vx_time.proofs.Splits.{sum_of-split, canonical_of, combines}
use Rattle.vx_time.proofs.laws.parts_combine.Goals as goal

pub returns-clause-sum : goal.returns-clause-sum
returns-clause-sum c = sum_of-split

pub returns-clause-canonical : goal.returns-clause-canonical
returns-clause-canonical c = canonical_of

pub returns-clause-combines : goal.returns-clause-combines
returns-clause-combines c = combines
