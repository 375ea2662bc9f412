use Rattle.std.proofs.Common.{map}
use Rattle.vx_stats.proofs.StatsLemmas.{valid_wholes-map-int}
use Rattle.vx_stats.proofs.integer.dense.table_of.Goals as goal

pub table_of_all-requires-clause-within : goal.table_of_all-requires-clause-within
table_of_all-requires-clause-within g c = rw (c.in-None.is, valid_wholes-map-int (map g.T.Integer.whole c.args.items.now)) at c.requires.within

pub returns-in-None-clause-table : goal.returns-in-None-clause-table
returns-in-None-clause-table g c = rw (c.in-None.is, valid_wholes-map-int (map g.T.Integer.whole c.args.items.now)) c.table_of_all.ensures.table
