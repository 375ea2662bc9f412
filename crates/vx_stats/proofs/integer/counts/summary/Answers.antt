use Rattle.std.proofs.Common.{◌<◌, map, sym, subst}
use Rattle.std.specs.Prelude.{◌≤ℤ◌}
use Rattle.std.proofs.lemmas.List.{length-map}
use Rattle.vx_base.specs.PlainValue.{int}
use Rattle.vx_model.specs.Rows.{valid_rows}
use Rattle.vx_stats.specs.Stats.{PlainTyped}
use Rattle.vx_stats.proofs.StatsLemmas.{ordered}
use Rattle.vx_stats.proofs.integer.counts.summary.Goals as goal

pub returns-clause-ordered : goal.returns-clause-ordered
returns-clause-ordered g c =
    let zs = map g.T.Integer.whole c.args.items.now in
    let rows = valid_rows c.args.valid.now (map int zs) in
    let counted = (c.count_rows-null_count.ensures zs (length-map c.args.items.now g.T.Integer.whole)).1 in
    let extremes = (c.shown-average_run_length.ensures rows c.tally_rows.ensures counted).1 in
    λ some. subst (λ (e : PlainTyped). e.extremes.least ≤ℤ e.extremes.greatest) (sym extremes) (ordered g.T.Integer.kind rows (subst (λ n. 0 < n) counted some))
