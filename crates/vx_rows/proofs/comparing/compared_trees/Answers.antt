use Rattle.std.proofs.Common.{◌∙◌, ap, length, sym}
use Rattle.std.specs.List.{list_all}
use Rattle.vx_base.specs.PlainScalar.{fits}
use Rattle.vx_base.specs.PlainType as types
use Rattle.vx_base.specs.PlainType.{is_flat, nullability_of, or_nullable}
use Rattle.vx_model.specs.Column.{column, column_of}
use Rattle.vx_model.specs.TreeType.{tree_type}
use Rattle.vx_rows.specs.Readable.{held, lent_rows}
use Rattle.vx_rows.proofs.AnswerLemmas.{comparable-flat, compared-fit, compared-made}
use Rattle.vx_rows.proofs.ReadLemmas.{read-column}
use Rattle.vx_rows.proofs.comparing.compared_trees.Goals as goal

pub readable-requires : goal.readable-requires
readable-requires c = (comparable-flat (tree_type c.args.left.now) (tree_type c.args.right.now) c.requires.types).0

pub rows_of-lefts-requires-clause-flat : goal.rows_of-lefts-requires-clause-flat
rows_of-lefts-requires-clause-flat c = ap is_flat c.in_ok-left_read.ensures.dtype ∙ (comparable-flat (tree_type c.args.left.now) (tree_type c.args.right.now) c.requires.types).0

pub rows_of-lefts-requires-clause-readable : goal.rows_of-lefts-requires-clause-readable
rows_of-lefts-requires-clause-readable c = c.in_ok-left_read.ensures.readable

pub readable-requires-2 : goal.readable-requires-2
readable-requires-2 c = (comparable-flat (tree_type c.args.left.now) (tree_type c.args.right.now) c.requires.types).1

pub rows_of-rights-requires-clause-flat : goal.rows_of-rights-requires-clause-flat
rows_of-rights-requires-clause-flat c = ap is_flat c.in_ok-right_read.ensures.dtype ∙ (comparable-flat (tree_type c.args.left.now) (tree_type c.args.right.now) c.requires.types).1

pub rows_of-rights-requires-clause-readable : goal.rows_of-rights-requires-clause-readable
rows_of-rights-requires-clause-readable c = c.in_ok-right_read.ensures.readable

pub compared_rows-requires-clause-lengths : goal.compared_rows-requires-clause-lengths
compared_rows-requires-clause-lengths c = ap length (c.rows_of-lefts.ensures.rows ∙ c.in_ok-left_read.ensures.rows) ∙ c.requires.lengths ∙ sym (ap length (c.rows_of-rights.ensures.rows ∙ c.in_ok-right_read.ensures.rows))

pub into_tree-requires : goal.into_tree-requires
into_tree-requires c =
    let n = c.either_nullability-nullability.result in
    let e = c.either_nullability-nullability.ensures ∙ (λ i. or_nullable (nullability_of (c.dtype.ensures i)) (nullability_of (c.dtype-2.ensures i))) in
    let l = c.rows_of-lefts.ensures.rows ∙ c.in_ok-left_read.ensures.rows in
    let r = c.rows_of-rights.ensures.rows ∙ c.in_ok-right_read.ensures.rows in
    ap (list_all (fits (types.boolean n))) c.in_ok-truths.ensures
    ∙ compared-fit (column_of c.args.left.now) (column_of c.args.right.now) n _ _ e l r c.args.operator (read-column c.args.left.now (held c.in_ok-left_read.left_read) (lent_rows c.rows_of-lefts.result) c.in_ok-left_read.ensures c.rows_of-lefts.ensures.rows c.rows_of-lefts.ensures.fit) (read-column c.args.right.now (held c.in_ok-right_read.right_read) (lent_rows c.rows_of-rights.result) c.in_ok-right_read.ensures c.rows_of-rights.ensures.rows c.rows_of-rights.ensures.fit)

pub returns : goal.returns
returns c =
    let n = c.either_nullability-nullability.result in
    let e = c.either_nullability-nullability.ensures ∙ (λ i. or_nullable (nullability_of (c.dtype.ensures i)) (nullability_of (c.dtype-2.ensures i))) in
    let l = c.rows_of-lefts.ensures.rows ∙ c.in_ok-left_read.ensures.rows in
    let r = c.rows_of-rights.ensures.rows ∙ c.in_ok-right_read.ensures.rows in
    compared-made (column_of c.args.left.now) (column_of c.args.right.now) n _ _ e l r c.args.operator _ (c.into_tree.ensures ∙ ap (column (types.boolean n)) c.in_ok-truths.ensures)
