use Rattle.vx_stats.proofs.SeenLemmas.{rising-counts}
use Rattle.vx_stats.proofs.integer.counting.sorted.Goals as goal

pub returns-clause-rising : goal.returns-clause-rising
returns-clause-rising g c = rising-counts g.T.Integer.whole g.T.Ord.cmp g.met.T.Integer.ordered _ c.sort_unstable.ensures.sorted
