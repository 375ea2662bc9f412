use Rattle.std.proofs.Common.{◌∙◌, ap, length, sym}
use Rattle.std.specs.List.{list_all}
use Rattle.vx_base.specs.PlainScalar.{fits}
use Rattle.vx_base.specs.PlainType.{is_flat}
use Rattle.vx_base.specs.TypeOf.{type_of}
use Rattle.vx_model.specs.Column.{column}
use Rattle.vx_rules.specs.Aggregates.{min_max}
use Rattle.vx_rows.specs.Extremes.{valid_items}
use Rattle.vx_rows.proofs.ExtremeLemmas.{same-answer}
use Rattle.vx_rows.proofs.extremes.named.named_scalars.Goals as goal

pub readable-requires : goal.readable-requires
readable-requires c = c.requires.flat

pub rows_of-rows-requires-clause-flat : goal.rows_of-rows-requires-clause-flat
rows_of-rows-requires-clause-flat c = ap is_flat c.in_ok-read.ensures.dtype ∙ c.requires.flat

pub rows_of-rows-requires-clause-readable : goal.rows_of-rows-requires-clause-readable
rows_of-rows-requires-clause-readable c = c.in_ok-read.ensures.readable

pub named_row_scalars-requires-clause-long : goal.named_row_scalars-requires-clause-long
named_row_scalars-requires-clause-long c = c.requires.long ∙ sym (ap length (c.rows_of-rows.ensures.rows ∙ c.in_ok-read.ensures.rows))

pub named_row_scalars-requires-clause-fit : goal.named_row_scalars-requires-clause-fit
named_row_scalars-requires-clause-fit c =
    ap (λ vs. list_all (fits (type_of c.args.dtype.now)) (valid_items c.args.named.now vs)) (c.rows_of-rows.ensures.rows ∙ c.in_ok-read.ensures.rows) ∙ c.requires.fit

pub returns : goal.returns
returns c =
    same-answer c.named_row_scalars.result _ _
    (ap (λ vs. min_max (column (type_of c.args.dtype.now) (valid_items c.args.named.now vs))) (c.rows_of-rows.ensures.rows ∙ c.in_ok-read.ensures.rows)) c.named_row_scalars.ensures
