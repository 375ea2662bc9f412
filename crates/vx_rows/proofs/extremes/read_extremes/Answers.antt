use Rattle.std.proofs.Common.{◌∙◌, ap, sym}
use Rattle.std.specs.List.{list_all}
use Rattle.vx_base.specs.PlainScalar.{fits}
use Rattle.vx_base.specs.PlainType.{is_flat}
use Rattle.vx_model.specs.Column.{column}
use Rattle.vx_rows.specs.Readable.{lent_rows}
use Rattle.vx_rules.specs.Aggregates.{min_max}
use Rattle.vx_rows.proofs.ExtremeLemmas.{same-answer}
use Rattle.vx_rows.proofs.extremes.read_extremes.Goals as goal

pub readable-requires : goal.readable-requires
readable-requires c = c.requires

pub rows_of-rows-requires-clause-flat : goal.rows_of-rows-requires-clause-flat
rows_of-rows-requires-clause-flat c = ap is_flat c.in_ok-read.ensures.dtype ∙ c.requires

pub rows_of-rows-requires-clause-readable : goal.rows_of-rows-requires-clause-readable
rows_of-rows-requires-clause-readable c = c.in_ok-read.ensures.readable

pub scalars-requires-clause-fit : goal.scalars-requires-clause-fit
scalars-requires-clause-fit c = ap (λ t. list_all (fits t) (lent_rows c.rows_of-rows.result)) (c.dtype-dtype.ensures ∙ sym c.in_ok-read.ensures.dtype) ∙ c.rows_of-rows.ensures.fit

pub returns : goal.returns
returns c =
    let rows = (c.rows_of-rows.ensures.rows ∙ c.in_ok-read.ensures.rows) in
    same-answer c.scalars.result _ _ (λ i. min_max (column (c.dtype-dtype.ensures i) (rows i))) c.scalars.ensures
