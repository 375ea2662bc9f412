use Rattle.std.proofs.Common.{◌∙◌, ap, length, sym}
use Rattle.std.specs.List.{list_all}
use Rattle.std.specs.Prelude.{replicate}
use Rattle.std.proofs.lemmas.List.{length-replicate}
use Rattle.vx_base.specs.PlainScalar.{fits}
use Rattle.vx_base.specs.PlainType as types
use Rattle.vx_base.specs.PlainType.{is_flat, nullability_of, or_nullable}
use Rattle.vx_model.specs.Column.{column, column_of}
use Rattle.vx_model.specs.TreeType.{tree_type}
use Rattle.vx_rules.specs.Operations.{repeated}
use Rattle.vx_rows.specs.Readable.{held, lent_rows}
use Rattle.vx_rows.proofs.AnswerLemmas.{comparable-flat, within-comparable, within-fit, within-made}
use Rattle.vx_rows.proofs.ReadLemmas.{read-column}
use Rattle.vx_rows.proofs.ranging.tree_within.Goals as goal

pub readable-requires : goal.readable-requires
readable-requires c = (comparable-flat (tree_type c.args.array.now) c.args.low.now.dtype (within-comparable (tree_type c.args.array.now) c.args.low.now.dtype c.args.high.now.dtype c.requires.types).0).0

pub rows_of-rows-requires-clause-flat : goal.rows_of-rows-requires-clause-flat
rows_of-rows-requires-clause-flat c = ap is_flat c.in_ok-read.ensures.dtype ∙ (comparable-flat (tree_type c.args.array.now) c.args.low.now.dtype (within-comparable (tree_type c.args.array.now) c.args.low.now.dtype c.args.high.now.dtype c.requires.types).0).0

pub rows_of-rows-requires-clause-readable : goal.rows_of-rows-requires-clause-readable
rows_of-rows-requires-clause-readable c = c.in_ok-read.ensures.readable

pub same_rows-lows-requires : goal.same_rows-lows-requires
same_rows-lows-requires c = (comparable-flat (tree_type c.args.array.now) c.args.low.now.dtype (within-comparable (tree_type c.args.array.now) c.args.low.now.dtype c.args.high.now.dtype c.requires.types).0).1

pub same_rows-highs-requires : goal.same_rows-highs-requires
same_rows-highs-requires c = (comparable-flat (tree_type c.args.array.now) c.args.high.now.dtype (within-comparable (tree_type c.args.array.now) c.args.low.now.dtype c.args.high.now.dtype c.requires.types).1).1

pub rows_within-requires-clause-lows : goal.rows_within-requires-clause-lows
rows_within-requires-clause-lows c = ap length (c.rows_of-rows.ensures.rows ∙ c.in_ok-read.ensures.rows) ∙ sym (ap length c.same_rows-lows.ensures.rows ∙ length-replicate c.len.result c.args.low.now.value ∙ c.len.ensures)

pub rows_within-requires-clause-highs : goal.rows_within-requires-clause-highs
rows_within-requires-clause-highs c = ap length (c.rows_of-rows.ensures.rows ∙ c.in_ok-read.ensures.rows) ∙ sym (ap length c.same_rows-highs.ensures.rows ∙ length-replicate c.len-2.result c.args.high.now.value ∙ c.len-2.ensures)

pub into_tree-requires : goal.into_tree-requires
into_tree-requires c =
    let n = c.nullability_within-nullability.result in
    let e = c.nullability_within-nullability.ensures ∙ (λ i. or_nullable (nullability_of (c.dtype.ensures i)) (or_nullable (nullability_of (c.dtype-2.ensures i)) (nullability_of (c.dtype-3.ensures i)))) in
    let r = c.rows_of-rows.ensures.rows ∙ c.in_ok-read.ensures.rows in
    let l = c.same_rows-lows.ensures.rows ∙ ap (λ k. replicate k c.args.low.now.value) c.len.ensures in
    let h = c.same_rows-highs.ensures.rows ∙ ap (λ k. replicate k c.args.high.now.value) c.len-2.ensures in
    ap (list_all (fits (types.boolean n))) c.in_ok-truths.ensures
    ∙ within-fit (column_of c.args.array.now) (repeated c.args.low.now (column_of c.args.array.now)) (repeated c.args.high.now (column_of c.args.array.now)) n _ _ _ e r l h c.args.options (read-column c.args.array.now (held c.in_ok-read.read) (lent_rows c.rows_of-rows.result) c.in_ok-read.ensures c.rows_of-rows.ensures.rows c.rows_of-rows.ensures.fit)
    (sym (ap (list_all (fits c.args.low.now.dtype)) (c.same_rows-lows.ensures.rows ∙ ap (λ k. replicate k c.args.low.now.value) c.len.ensures)) ∙ c.same_rows-lows.ensures.fit) (sym (ap (list_all (fits c.args.high.now.dtype)) (c.same_rows-highs.ensures.rows ∙ ap (λ k. replicate k c.args.high.now.value) c.len-2.ensures)) ∙ c.same_rows-highs.ensures.fit)

pub returns : goal.returns
returns c =
    let n = c.nullability_within-nullability.result in
    let e = c.nullability_within-nullability.ensures ∙ (λ i. or_nullable (nullability_of (c.dtype.ensures i)) (or_nullable (nullability_of (c.dtype-2.ensures i)) (nullability_of (c.dtype-3.ensures i)))) in
    let r = c.rows_of-rows.ensures.rows ∙ c.in_ok-read.ensures.rows in
    let l = c.same_rows-lows.ensures.rows ∙ ap (λ k. replicate k c.args.low.now.value) c.len.ensures in
    let h = c.same_rows-highs.ensures.rows ∙ ap (λ k. replicate k c.args.high.now.value) c.len-2.ensures in
    within-made (column_of c.args.array.now) (repeated c.args.low.now (column_of c.args.array.now)) (repeated c.args.high.now (column_of c.args.array.now)) n _ _ _ e r l h c.args.options _ (c.into_tree.ensures ∙ ap (column (types.boolean n)) c.in_ok-truths.ensures)
