use Rattle.std.proofs.Common.{◌∙◌, sym, ap, subst}
use Rattle.std.specs.Prelude.{option_to_list}
use Rattle.vx_model.specs.Column.{column_of}
use Rattle.vx_model.specs.Rows.{rows}
use Rattle.vx_scheme.specs.Asked.{FitParts}
use Rattle.vx_schemes_common.specs.OnePart.{part_where}
use Rattle.vx_schemes_text.specs.NullSparse.Tree.{is_null_dominated, value_indices}
use Rattle.vx_schemes_text.proofs.SparseParts.{few-trees, tree-fits}
use Rattle.vx_schemes_text.proofs.string.sparse.tree.joined_by.Goals as goal

pub only-requires : goal.only-requires
only-requires c = let t = c.args.array.now in few-trees (is_null_dominated (rows t)) (value_indices (column_of t)) c.args.trees c.requires.trees

pub sparse_tree-requires-clause-dominated : goal.sparse_tree-requires-clause-dominated
sparse_tree-requires-clause-dominated c =
    let t = c.args.array.now in
    (tree-fits (is_null_dominated (rows t)) (value_indices (column_of t)) c.in-Some.indices (subst (FitParts (part_where (is_null_dominated (rows t)) (value_indices (column_of t)))) (sym (ap option_to_list (sym c.in-Some.is) ∙ c.only.ensures)) c.requires.trees)).0

pub sparse_tree-requires-clause-indices : goal.sparse_tree-requires-clause-indices
sparse_tree-requires-clause-indices c =
    let t = c.args.array.now in
    (tree-fits (is_null_dominated (rows t)) (value_indices (column_of t)) c.in-Some.indices (subst (FitParts (part_where (is_null_dominated (rows t)) (value_indices (column_of t)))) (sym (ap option_to_list (sym c.in-Some.is) ∙ c.only.ensures)) c.requires.trees)).1
