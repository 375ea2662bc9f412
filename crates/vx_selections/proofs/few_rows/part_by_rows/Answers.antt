use Rattle.std.proofs.Common.{◌∙◌}
use Rattle.std.specs.List.{list_all}
use Rattle.vx_base.specs.PlainScalar.{fits}
use Rattle.vx_model.specs.Column.{column}
use Rattle.vx_model.specs.Rows.{rows}
use Rattle.vx_model.specs.TreeType.{tree_type}
use Rattle.vx_model.proofs.MadeLemmas.{rows_fit}
use Rattle.vx_selections.proofs.ByPieces.{along}
use Rattle.vx_selections.proofs.Parts.{all-between}
use Rattle.vx_selections.proofs.few_rows.part_by_rows.Goals as goal

pub of_values-requires : goal.of_values-requires
of_values-requires c =
    let t = c.args.tree.now in
    (λ i. list_all (fits (c.dtype.ensures i)) (c.in_ok-values.ensures i)) ∙ all-between (fits (tree_type t)) c.args.start c.args.end (rows t) (rows_fit t c.known.ensures)

pub returns : goal.returns
returns c = along c.of_values.result _ _ (λ i. column (c.dtype.ensures i) (c.in_ok-values.ensures i)) c.of_values.ensures.kept
