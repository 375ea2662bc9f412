use Rattle.std.proofs.Common.{◌∙◌, sym}
use Rattle.vx_stats.proofs.DistinctLemmas.{best-start}
use Rattle.vx_stats.proofs.integer.distinct.first_of_most.Goals as goal

pub loop-row-init : goal.loop-row-init
loop-row-init g c = best-start g.T.Integer.whole c.args.counts.now c.index-counts-0.result (sym c.is_empty.ensures ∙ c.if-is_empty.false) c.index-counts-0.is
