use Rattle.std.proofs.Common.{◌∙◌, ap, map}
use Rattle.vx_base.specs.PlainType.{is_flat}
use Rattle.vx_base.specs.Undelta.{total}
use Rattle.vx_model.specs.TreeType.{tree_type}
use Rattle.vx_rules.specs.Aggregates.{summand}
use Rattle.vx_rows.proofs.SummedLemmas.{sized, summed-flat}
use Rattle.vx_rows.proofs.summing.column_total.Goals as goal

pub readable-requires : goal.readable-requires
readable-requires c = summed-flat (tree_type c.args.array.now) c.requires

pub rows_of-rows-requires-clause-flat : goal.rows_of-rows-requires-clause-flat
rows_of-rows-requires-clause-flat c = ap is_flat c.in_ok-read.ensures.dtype ∙ summed-flat (tree_type c.args.array.now) c.requires

pub rows_of-rows-requires-clause-readable : goal.rows_of-rows-requires-clause-readable
rows_of-rows-requires-clause-readable c = c.in_ok-read.ensures.readable

pub lent_total-requires-clause-sized : goal.lent_total-requires-clause-sized
lent_total-requires-clause-sized c = sized _ c.rows_of-rows.result c.rows_of-rows.ensures.fit

pub returns : goal.returns
returns c = c.lent_total.ensures ∙ ap (λ vs. total (map summand vs)) (c.rows_of-rows.ensures.rows ∙ c.in_ok-read.ensures.rows)
