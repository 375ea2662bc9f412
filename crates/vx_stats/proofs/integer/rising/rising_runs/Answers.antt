use Rattle.std.proofs.Common.{map}
use Rattle.vx_stats.proofs.StatsLemmas.{valid_wholes-map-int}
use Rattle.vx_stats.proofs.integer.rising.rising_runs.Goals as goal

pub returns-in-None : goal.returns-in-None
returns-in-None g c = rw (c.in-None.is, valid_wholes-map-int (map g.T.Integer.whole c.args.items.now)) c.runs_of_all.ensures
