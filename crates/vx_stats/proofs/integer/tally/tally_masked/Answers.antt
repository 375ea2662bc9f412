use Rattle.std.proofs.Common.{◌∙◌, sym}
use Rattle.vx_stats.proofs.StatsLemmas.{begins, nothing, all-tallied}
use Rattle.vx_stats.proofs.integer.tally.tally_masked.Goals as goal

pub returns-in-Some : goal.returns-in-Some
returns-in-Some g c =
    let whole = g.T.Integer.whole in
    let x = c.index-items-row.result in
    let start = begins whole c.args.mask.now c.args.items.now c.in-Some.row x c.requires.bits (sym c.first.ensures ∙ c.in-Some.is) c.index-items-row.is in
    let after = rw c.as_slice.ensures at c.tally_groups.ensures in
    all-tallied whole g.T.Integer.kind x _ c.tally_groups.result c.to_whole-whole.ensures.held start after

pub returns-in-None : goal.returns-in-None
returns-in-None g c = nothing g.T.Integer.whole c.args.mask.now c.args.items.now c.requires.bits (sym c.first.ensures ∙ c.in-None.is)
