use Rattle.std.proofs.Common.{◌∙◌, map}
use Rattle.vx_base.specs.PlainValue.{int}
use Rattle.vx_model.specs.Rows.{valid_rows}
use Rattle.vx_stats.specs.Stats.{valid_wholes}
use Rattle.vx_stats.proofs.DenseLemmas.{entries-value_counts}
use Rattle.vx_stats.proofs.integer.dense.dense_info.Goals as goal

pub returns : goal.returns
returns g c =
    let whole = g.T.Integer.whole in
    let wholes = valid_wholes (valid_rows c.args.valid.now (map int (map whole c.args.items.now))) in
    c.new.ensures ∙ c.in_ok-entries.ensures.entries
    ∙ entries-value_counts (whole c.args.range.least) (whole c.args.range.greatest) c.args.len wholes c.requires.len c.requires.within c.as_slice.result.now
    (c.as_slice.ensures.value ∙ c.in_ok-table.ensures.table)
