use Rattle.std.proofs.Common.{◌∙◌, ap, length, sym}
use Rattle.std.specs.List.{list_all}
use Rattle.std.specs.Prelude.{replicate}
use Rattle.std.proofs.lemmas.List.{length-replicate}
use Rattle.vx_base.specs.PlainScalar.{fits}
use Rattle.vx_base.specs.PlainType as types
use Rattle.vx_base.specs.PlainType.{is_flat, nullability_of, or_nullable}
use Rattle.vx_model.specs.Column.{column, column_of}
use Rattle.vx_model.specs.TreeType.{tree_type}
use Rattle.vx_rules.specs.Operations.{repeated}
use Rattle.vx_rows.specs.Readable.{held, lent_rows}
use Rattle.vx_rows.proofs.AnswerLemmas.{comparable-flat, compared-fit, compared-made}
use Rattle.vx_rows.proofs.ReadLemmas.{read-column}
use Rattle.vx_rows.proofs.comparing.compared_with.Goals as goal

pub readable-requires : goal.readable-requires
readable-requires c = (comparable-flat (tree_type c.args.array.now) c.args.value.now.dtype c.requires.types).0

pub rows_of-rows-requires-clause-flat : goal.rows_of-rows-requires-clause-flat
rows_of-rows-requires-clause-flat c = ap is_flat c.in_ok-read.ensures.dtype ∙ (comparable-flat (tree_type c.args.array.now) c.args.value.now.dtype c.requires.types).0

pub rows_of-rows-requires-clause-readable : goal.rows_of-rows-requires-clause-readable
rows_of-rows-requires-clause-readable c = c.in_ok-read.ensures.readable

pub same_rows-others-requires : goal.same_rows-others-requires
same_rows-others-requires c = (comparable-flat (tree_type c.args.array.now) c.args.value.now.dtype c.requires.types).1

pub compared_rows-requires-clause-lengths : goal.compared_rows-requires-clause-lengths
compared_rows-requires-clause-lengths c = ap length (c.rows_of-rows.ensures.rows ∙ c.in_ok-read.ensures.rows) ∙ sym (ap length c.same_rows-others.ensures.rows ∙ length-replicate c.len.result c.args.value.now.value ∙ c.len.ensures)

pub into_tree-requires : goal.into_tree-requires
into_tree-requires c =
    let n = c.either_nullability-nullability.result in
    let e = c.either_nullability-nullability.ensures ∙ (λ i. or_nullable (nullability_of (c.dtype.ensures i)) (nullability_of (c.dtype-2.ensures i))) in
    let l = c.rows_of-rows.ensures.rows ∙ c.in_ok-read.ensures.rows in
    let r = c.same_rows-others.ensures.rows ∙ ap (λ k. replicate k c.args.value.now.value) c.len.ensures in
    ap (list_all (fits (types.boolean n))) c.in_ok-truths.ensures
    ∙ compared-fit (column_of c.args.array.now) (repeated c.args.value.now (column_of c.args.array.now)) n _ _ e l r c.args.operator (read-column c.args.array.now (held c.in_ok-read.read) (lent_rows c.rows_of-rows.result) c.in_ok-read.ensures c.rows_of-rows.ensures.rows c.rows_of-rows.ensures.fit) (sym (ap (list_all (fits c.args.value.now.dtype)) (c.same_rows-others.ensures.rows ∙ ap (λ k. replicate k c.args.value.now.value) c.len.ensures)) ∙ c.same_rows-others.ensures.fit)

pub returns : goal.returns
returns c =
    let n = c.either_nullability-nullability.result in
    let e = c.either_nullability-nullability.ensures ∙ (λ i. or_nullable (nullability_of (c.dtype.ensures i)) (nullability_of (c.dtype-2.ensures i))) in
    let l = c.rows_of-rows.ensures.rows ∙ c.in_ok-read.ensures.rows in
    let r = c.same_rows-others.ensures.rows ∙ ap (λ k. replicate k c.args.value.now.value) c.len.ensures in
    compared-made (column_of c.args.array.now) (repeated c.args.value.now (column_of c.args.array.now)) n _ _ e l r c.args.operator _ (c.into_tree.ensures ∙ ap (column (types.boolean n)) c.in_ok-truths.ensures)
