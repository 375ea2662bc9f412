use Rattle.std.proofs.Common.{◌∙◌, ap}
use Rattle.vx_base.specs.PlainType.{is_flat}
use Rattle.vx_rules.specs.Aggregates.{all_equal}
use Rattle.vx_rows.proofs.constancy.flat_is_constant.Goals as goal

pub readable-requires : goal.readable-requires
readable-requires c = c.requires

pub rows_of-rows-requires-clause-flat : goal.rows_of-rows-requires-clause-flat
rows_of-rows-requires-clause-flat c = ap is_flat c.in_ok-read.ensures.dtype ∙ c.requires

pub rows_of-rows-requires-clause-readable : goal.rows_of-rows-requires-clause-readable
rows_of-rows-requires-clause-readable c = c.in_ok-read.ensures.readable

pub returns : goal.returns
returns c = c.are_equal.ensures ∙ ap all_equal (c.rows_of-rows.ensures.rows ∙ c.in_ok-read.ensures.rows)
