use Rattle.std.proofs.Common.{◌∙◌}
use Rattle.std.specs.List.{list_all}
use Rattle.vx_base.specs.PlainScalar.{fits}
use Rattle.vx_model.specs.Column.{column}
use Rattle.vx_rows.proofs.FillLemmas.{answer-along}
use Rattle.vx_rows.proofs.filling.filled_cells.Goals as goal

pub of_values-requires : goal.of_values-requires
of_values-requires c = (λ i. list_all (fits (c.dtype.ensures i)) (c.in_ok-values.ensures i)) ∙ c.requires.fit

pub returns : goal.returns
returns c = answer-along c.of_values.result _ _ (λ i. column (c.dtype.ensures i) (c.in_ok-values.ensures i)) c.of_values.ensures.kept
