use Rattle.std.proofs.Common.{◌<◌, ◌∙◌, length, sym, ap, subst}
use Rattle.std.specs.Prelude.{IfSome}
use Rattle.vx_base.specs.PlainScalar.{fits}
use Rattle.vx_model.specs.Rows.{rows}
use Rattle.vx_model.specs.TreeType.{tree_type}
use Rattle.vx_model.proofs.FrameOfReferenceLemmas.{row_passes}
use Rattle.vx_model.proofs.MadeLemmas.{rows_fit}
use Rattle.vx_sparse.proofs.kernels.single_rows.placed_row.Goals as goal

pub scalar_of-requires : goal.scalar_of-requires
scalar_of-requires c =
    let t = c.values-patched.result.now in
    let place = c.in-Some.place in
    let within : place < length (rows t) =
    subst (λ x. place < length (rows x)) (sym c.values-patched.ensures) (subst (λ o. IfSome o (λ k. k < length (rows c.args.patches.now.values))) c.in-Some.is c.requires.within) in
    let own = row_passes (fits (tree_type t)) (rows t) place within (rows_fit t c.known.ensures) in
    let kind = c.dtype-kind.ensures ∙ sym c.requires.typed ∙ ap tree_type (sym c.values-patched.ensures) in
    (λ i. fits (kind i) (c.cell_at.ensures i)) ∙ own
