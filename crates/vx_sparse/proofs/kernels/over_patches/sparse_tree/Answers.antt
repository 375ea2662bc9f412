use Rattle.std.proofs.Common.{◌≡◌, ap, subst, None, Err}
use Rattle.vx_base.specs.declared.error.VortexError.TheVariants.{MismatchedTypes}
use Rattle.vx_base.specs.Answers.{Makes, unless}
use Rattle.vx_base.specs.PlainType.{stored_type}
use Rattle.vx_base.specs.Storable.{same_refl}
use Rattle.vx_model.specs.Refusals.{sparse_refusal}
use Rattle.vx_model.specs.Tree.{sparse_of}
use Rattle.vx_model.specs.TreeType.{tree_type}
use Rattle.vx_sparse.proofs.kernels.over_patches.sparse_tree.Goals as goal

pub returns-in-Err : goal.returns-in-Err
returns-in-Err c =
    let p = c.args.patches in
    let fill = c.args.fill in
    let none : sparse_refusal p fill ≡ None = ap (λ b. unless b MismatchedTypes None) (same_refl stored_type (tree_type p.values) fill.dtype c.requires) in
    (subst (λ o. Makes o (sparse_of p fill) (p, fill) (Err c.in-Err.refused)) none c.in-Err.ensures).0
