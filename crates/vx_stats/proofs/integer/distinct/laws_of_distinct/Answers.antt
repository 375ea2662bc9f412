use Rattle.vx_stats.proofs.DistinctLemmas.{distinct-sorted, distinct-times}
use Rattle.vx_stats.proofs.integer.distinct.laws_of_distinct.Goals as goal

pub returns : goal.returns
returns c = record { ascending = distinct-sorted; once = λ zs z. distinct-times z zs }
