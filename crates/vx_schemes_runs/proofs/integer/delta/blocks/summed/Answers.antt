use Rattle.std.proofs.Common.{◌≡◌, ◌∙◌, ap, sym, subst}
use Rattle.vx_base.specs.PlainType.{nullability_of}
use Rattle.vx_base.proofs.MakesLemmas.{Makes_ok, Makes_err}
use Rattle.vx_model.specs.Plain.{validity}
use Rattle.vx_model.specs.Refusals.{delta_refusal, kept}
use Rattle.vx_model.specs.Rows.{rows}
use Rattle.vx_model.specs.Tree.{delta}
use Rattle.vx_model.specs.TreeType.{tree_type}
use Rattle.vx_model.specs.WellFormed.{WellFormed}
use Rattle.vx_model.proofs.DecodeLemmas.{kept-validity}
use Rattle.vx_values.specs.IntsOf.{ptype_of, wholes_of}
use Rattle.vx_schemes_common.proofs.ColumnLemmas.{validity_is}
use Rattle.vx_schemes_runs.proofs.integer.delta.blocks.summed.Goals as goal

pub returns-in-Ok : goal.returns-in-Ok
returns-in-Ok c =
    let a = c.as_primitive-nullability in
    let t = c.args.array.now in
    let well = subst WellFormed a.ensures.tree a.ensures.well_formed in
    let valid : c.in_ok-valid.valid ≡ validity (rows t) = c.in_ok-valid.ensures ∙ validity_is t (ptype_of a.result.0.now) (wholes_of a.result.0.now) a.result.1.now a.result.2 well (sym a.ensures.tree) c.requires.plain in
    let n : a.result.2 ≡ nullability_of (tree_type t) = ap (λ s. nullability_of (tree_type s)) a.ensures.tree in
    Makes_ok _ _ _ _ c.in-Ok.ensures ∙ (λ i. delta c.args.bases c.args.differences (c.len.ensures i) ((ap kept valid ∙ kept-validity (rows t)) i) (n i))

pub returns-in-Err : goal.returns-in-Err
returns-in-Err c =
    let a = c.as_primitive-nullability in
    let t = c.args.array.now in
    let well = subst WellFormed a.ensures.tree a.ensures.well_formed in
    let valid : c.in_ok-valid.valid ≡ validity (rows t) = c.in_ok-valid.ensures ∙ validity_is t (ptype_of a.result.0.now) (wholes_of a.result.0.now) a.result.1.now a.result.2 well (sym a.ensures.tree) c.requires.plain in
    let n : a.result.2 ≡ nullability_of (tree_type t) = ap (λ s. nullability_of (tree_type s)) a.ensures.tree in
    Makes_err _ _ _ _ ((λ i. delta_refusal c.args.bases c.args.differences (c.len.ensures i) (valid i) (n i)) ∙ c.requires.admitted) c.in-Err.ensures
