use Rattle.std.proofs.Common.{◌∙◌, ap, length, refl}
use Rattle.std.specs.List.{list_all}
use Rattle.vx_base.specs.declared.error.VortexError.TheVariants.{OutOfBounds}
use Rattle.vx_base.specs.PlainScalar.{fits}
use Rattle.vx_base.specs.PlainType.{nullability_of, or_nullable, with_nullability}
use Rattle.vx_model.specs.Column.{column, column_of}
use Rattle.vx_model.specs.Tree.{primitive}
use Rattle.vx_model.proofs.MadeLemmas.{has_length, rows_fit}
use Rattle.vx_rules.proofs.FitLaws.{answers_are_columns}
use Rattle.vx_values.specs.IntsOf.{ptype_of, wholes_of}
use Rattle.vx_selections.proofs.ByPieces.{along}
use Rattle.vx_selections.proofs.Validities.{pass}
use Rattle.vx_selections.proofs.few_rows.taken_by_rows.Goals as goal

pub values_at-requires-clause-whole : goal.values_at-requires-clause-whole
values_at-requires-clause-whole c = has_length c.args.valid.now (length (wholes_of c.args.codes.now)) c.args.nulls c.requires.well.0.validity

pub of_values-requires : goal.of_values-requires
of_values-requires c =
    let t = c.args.tree.now in
    let n = c.or.ensures ∙ (λ i. or_nullable ((c.nullability.ensures ∙ ap nullability_of c.dtype-dtype.ensures) i) c.args.nulls) in
    let typed = c.in_ok-wide.ensures ∙ (λ i. with_nullability (c.dtype-dtype.ensures i) (n i)) in
    let indices = primitive (ptype_of c.args.codes.now) (wholes_of c.args.codes.now) c.args.valid.now c.args.nulls in
    (λ i. list_all (fits (typed i)) (c.in_ok-values.ensures i))
    ∙ answers_are_columns.take (column_of t) (column_of indices) (rows_fit t c.known.ensures) (rows_fit indices c.requires.well) (pass _ OutOfBounds _ c.requires.places refl)

pub returns : goal.returns
returns c =
    let t = c.args.tree.now in
    let n = c.or.ensures ∙ (λ i. or_nullable ((c.nullability.ensures ∙ ap nullability_of c.dtype-dtype.ensures) i) c.args.nulls) in
    let typed = c.in_ok-wide.ensures ∙ (λ i. with_nullability (c.dtype-dtype.ensures i) (n i)) in
    along c.of_values.result _ _ (λ i. column (typed i) (c.in_ok-values.ensures i)) c.of_values.ensures.kept
