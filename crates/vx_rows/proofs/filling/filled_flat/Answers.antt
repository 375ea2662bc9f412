use Rattle.std.proofs.Common.{◌∙◌, ap, map, sym}
use Rattle.std.specs.List.{list_all}
use Rattle.vx_base.specs.Defaults.{or_default}
use Rattle.vx_base.specs.PlainScalar.{fits}
use Rattle.vx_base.specs.PlainType.{is_flat}
use Rattle.vx_model.specs.Column.{column, column_of}
use Rattle.vx_rows.specs.Readable.{lent_rows}
use Rattle.vx_rows.proofs.FillLemmas.{answer-along, fill-value, filled-fit}
use Rattle.vx_rows.proofs.filling.filled_flat.Goals as goal

pub readable-requires : goal.readable-requires
readable-requires c = c.requires.flat

pub rows_of-rows-requires-clause-flat : goal.rows_of-rows-requires-clause-flat
rows_of-rows-requires-clause-flat c = ap is_flat c.in_ok-read.ensures.dtype ∙ c.requires.flat

pub rows_of-rows-requires-clause-readable : goal.rows_of-rows-requires-clause-readable
rows_of-rows-requires-clause-readable c = c.in_ok-read.ensures.readable

pub filled_rows-requires-clause-fit : goal.filled_rows-requires-clause-fit
filled_rows-requires-clause-fit c =
    let rows = lent_rows c.rows_of-rows.result in
    filled-fit (column_of c.args.array.now) c.args.fill.now c.requires.accepted rows
    (ap (λ t. list_all (fits t) rows) (sym c.in_ok-read.ensures.dtype) ∙ c.rows_of-rows.ensures.fit) c.known.ensures

pub filled_rows-requires-clause-value : goal.filled_rows-requires-clause-value
filled_rows-requires-clause-value c = fill-value (column_of c.args.array.now) c.args.fill.now c.requires.accepted

pub returns : goal.returns
returns c =
    let rows = c.rows_of-rows.ensures.rows ∙ c.in_ok-read.ensures.rows in
    answer-along c.filled_rows.result _ _ (λ i. column c.args.fill.now.dtype (map (or_default c.args.fill.now.value) (rows i))) c.filled_rows.ensures
