use Rattle.std.proofs.Common.{map, ap}
use Rattle.vx_stats.proofs.StatsLemmas.{valid_wholes-map-int}
use Rattle.vx_stats.proofs.integer.sorting.valid_items.Goals as goal

pub returns-in_ok-from_slice-in-None-clause-kept : goal.returns-in_ok-from_slice-in-None-clause-kept
returns-in_ok-from_slice-in-None-clause-kept g c =
    let whole = g.T.Integer.whole in
    rw (c.in-None.is, valid_wholes-map-int (map whole c.args.items.now)) (ap (map whole) c.in_ok-from_slice-in-None.ensures.items)
