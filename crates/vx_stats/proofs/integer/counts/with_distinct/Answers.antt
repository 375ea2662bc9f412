use Rattle.std.proofs.Common.{◌≡◌, ◌∙◌, map, ap}
use Rattle.vx_base.specs.PlainValue.{int}
use Rattle.vx_model.specs.Rows.{valid_rows}
use Rattle.vx_stats.specs.Stats.{PlainTyped, least_in, greatest_in}
use Rattle.vx_stats.proofs.StatsLemmas.{all-between}
use Rattle.vx_stats.proofs.integer.counts.with_distinct.Goals as goal

pub distinct_info-requires-clause-within : goal.distinct_info-requires-clause-within
distinct_info-requires-clause-within g c =
    let kind = g.T.Integer.kind in
    let rows = valid_rows c.args.valid.now (map int (map g.T.Integer.whole c.args.items.now)) in
    let extremes = c.requires.extremes in
    let least : g.T.Integer.whole c.range.result.least ≡ least_in kind rows = c.range.ensures.least ∙ ap (λ (t : PlainTyped). t.extremes.least) extremes in
    let greatest : g.T.Integer.whole c.range.result.greatest ≡ greatest_in kind rows = c.range.ensures.greatest ∙ ap (λ (t : PlainTyped). t.extremes.greatest) extremes in
    rw (least, greatest) (all-between kind rows)
