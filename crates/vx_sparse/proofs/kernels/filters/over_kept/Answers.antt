use Rattle.std.proofs.Common.{◌∙◌, sym, ap, subst}
use Rattle.vx_base.specs.Answers.{Answers}
use Rattle.vx_model.specs.Tree.{sparse, sparse_of}
use Rattle.vx_model.specs.TreeType.{tree_type}
use Rattle.vx_sparse.proofs.kernels.filters.over_kept.Goals as goal

pub sparse_tree-requires : goal.sparse_tree-requires
sparse_tree-requires c = ap (λ q. tree_type q.values) c.of_rising-others.ensures ∙ c.requires.typed ∙ ap (λ s. s.dtype) (sym c.in_ok-own.ensures)

pub returns : goal.returns
returns c =
    subst (Answers c.sparse_tree.result)
    ((λ i. sparse_of (c.of_rising-others.ensures i) c.in_ok-own.own) ∙ (λ i. sparse c.args.len 0 c.args.indices c.args.values (c.in_ok-own.ensures i))) c.sparse_tree.ensures
