use Rattle.std.proofs.Common.{◌∙◌, ap, subst}
use Rattle.vx_base.specs.Answers.{Answers}
use Rattle.vx_model.specs.Refusals.{patches_refusal}
use Rattle.vx_model.specs.Tree.{patches, sparse, sparse_of}
use Rattle.vx_model.specs.TreeType.{tree_type}
use Rattle.vx_sparse.proofs.KernelAnswers.{values-accepted}
use Rattle.vx_sparse.proofs.kernels.over_patches.over_patches.Goals as goal

pub of_rising-others-requires : goal.of_rising-others-requires
of_rising-others-requires c =
    let p = c.args.patches.now in
    (λ i. patches_refusal (patches (c.array_len.ensures i) (c.offset.ensures i) ((c.in_ok-indices.ensures ∙ c.indices.ensures) i) c.args.values)) ∙ values-accepted p c.args.values c.known.ensures c.requires.lengths

pub sparse_tree-requires : goal.sparse_tree-requires
sparse_tree-requires c = ap (λ q. tree_type q.values) c.of_rising-others.ensures ∙ c.requires.typed

pub returns : goal.returns
returns c =
    subst (Answers c.sparse_tree.result)
    ((λ i. sparse_of (c.of_rising-others.ensures i) c.args.fill) ∙ (λ i. sparse (c.array_len.ensures i) (c.offset.ensures i) ((c.in_ok-indices.ensures ∙ c.indices.ensures) i) c.args.values c.args.fill)) c.sparse_tree.ensures
