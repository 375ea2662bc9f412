use Rattle.std.proofs.Common.{◌∙◌}
use Rattle.std.specs.List.{list_all}
use Rattle.vx_base.specs.PlainScalar.{fits}
use Rattle.vx_model.specs.Column.{column, column_of}
use Rattle.vx_model.specs.Rows.{rows}
use Rattle.vx_model.proofs.MadeLemmas.{rows_fit}
use Rattle.vx_rows.proofs.FillLemmas.{answer-along, filled-fit}
use Rattle.vx_rows.proofs.filling.filled_nested.Goals as goal

pub of_values-requires : goal.of_values-requires
of_values-requires c =
    (λ i. list_all (fits (c.dtype.ensures i)) (c.in_ok-values.ensures i))
    ∙ filled-fit (column_of c.args.array.now) c.args.fill.now c.requires (rows c.args.array.now) (rows_fit c.args.array.now c.known.ensures) c.known-2.ensures

pub returns : goal.returns
returns c = answer-along c.of_values.result _ _ (λ i. column (c.dtype.ensures i) (c.in_ok-values.ensures i)) c.of_values.ensures.kept
