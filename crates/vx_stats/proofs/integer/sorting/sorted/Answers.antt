use Rattle.vx_stats.proofs.DistinctLemmas.{rising-sorted}
use Rattle.vx_stats.proofs.integer.sorting.sorted.Goals as goal

pub returns-clause-rising : goal.returns-clause-rising
returns-clause-rising g c = rising-sorted g.T.Integer.whole g.T.Ord.cmp g.met.T.Integer.ordered _ c.sort_unstable.ensures.sorted
