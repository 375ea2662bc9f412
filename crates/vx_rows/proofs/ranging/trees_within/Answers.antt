use Rattle.std.proofs.Common.{◌∙◌, ap, length, sym}
use Rattle.std.specs.List.{list_all}
use Rattle.std.proofs.lemmas.Bool.{and_parts, eqb-true}
use Rattle.vx_base.specs.PlainScalar.{fits}
use Rattle.vx_base.specs.PlainType as types
use Rattle.vx_base.specs.PlainType.{is_flat, nullability_of, or_nullable}
use Rattle.vx_model.specs.Column.{column, column_of}
use Rattle.vx_model.specs.TreeType.{tree_type}
use Rattle.vx_rows.specs.Readable.{held, lent_rows}
use Rattle.vx_rows.proofs.AnswerLemmas.{comparable-flat, within-comparable, within-fit, within-made}
use Rattle.vx_rows.proofs.ReadLemmas.{read-column}
use Rattle.vx_rows.proofs.ranging.trees_within.Goals as goal

pub readable-requires : goal.readable-requires
readable-requires c = (comparable-flat (tree_type c.args.array.now) (tree_type c.args.low.now) (within-comparable (tree_type c.args.array.now) (tree_type c.args.low.now) (tree_type c.args.high.now) c.requires.types).0).0

pub rows_of-rows-requires-clause-flat : goal.rows_of-rows-requires-clause-flat
rows_of-rows-requires-clause-flat c = ap is_flat c.in_ok-read.ensures.dtype ∙ (comparable-flat (tree_type c.args.array.now) (tree_type c.args.low.now) (within-comparable (tree_type c.args.array.now) (tree_type c.args.low.now) (tree_type c.args.high.now) c.requires.types).0).0

pub rows_of-rows-requires-clause-readable : goal.rows_of-rows-requires-clause-readable
rows_of-rows-requires-clause-readable c = c.in_ok-read.ensures.readable

pub readable-requires-2 : goal.readable-requires-2
readable-requires-2 c = (comparable-flat (tree_type c.args.array.now) (tree_type c.args.low.now) (within-comparable (tree_type c.args.array.now) (tree_type c.args.low.now) (tree_type c.args.high.now) c.requires.types).0).1

pub rows_of-lows-requires-clause-flat : goal.rows_of-lows-requires-clause-flat
rows_of-lows-requires-clause-flat c = ap is_flat c.in_ok-low_read.ensures.dtype ∙ (comparable-flat (tree_type c.args.array.now) (tree_type c.args.low.now) (within-comparable (tree_type c.args.array.now) (tree_type c.args.low.now) (tree_type c.args.high.now) c.requires.types).0).1

pub rows_of-lows-requires-clause-readable : goal.rows_of-lows-requires-clause-readable
rows_of-lows-requires-clause-readable c = c.in_ok-low_read.ensures.readable

pub readable-requires-3 : goal.readable-requires-3
readable-requires-3 c = (comparable-flat (tree_type c.args.array.now) (tree_type c.args.high.now) (within-comparable (tree_type c.args.array.now) (tree_type c.args.low.now) (tree_type c.args.high.now) c.requires.types).1).1

pub rows_of-highs-requires-clause-flat : goal.rows_of-highs-requires-clause-flat
rows_of-highs-requires-clause-flat c = ap is_flat c.in_ok-high_read.ensures.dtype ∙ (comparable-flat (tree_type c.args.array.now) (tree_type c.args.high.now) (within-comparable (tree_type c.args.array.now) (tree_type c.args.low.now) (tree_type c.args.high.now) c.requires.types).1).1

pub rows_of-highs-requires-clause-readable : goal.rows_of-highs-requires-clause-readable
rows_of-highs-requires-clause-readable c = c.in_ok-high_read.ensures.readable

pub rows_within-requires-clause-lows : goal.rows_within-requires-clause-lows
rows_within-requires-clause-lows c = ap length (c.rows_of-rows.ensures.rows ∙ c.in_ok-read.ensures.rows) ∙ eqb-true _ _ (and_parts _ _ c.requires.lengths).0 ∙ sym (ap length (c.rows_of-lows.ensures.rows ∙ c.in_ok-low_read.ensures.rows))

pub rows_within-requires-clause-highs : goal.rows_within-requires-clause-highs
rows_within-requires-clause-highs c = ap length (c.rows_of-rows.ensures.rows ∙ c.in_ok-read.ensures.rows) ∙ eqb-true _ _ (and_parts _ _ c.requires.lengths).1 ∙ sym (ap length (c.rows_of-highs.ensures.rows ∙ c.in_ok-high_read.ensures.rows))

pub into_tree-requires : goal.into_tree-requires
into_tree-requires c =
    let n = c.nullability_within-nullability.result in
    let e = c.nullability_within-nullability.ensures ∙ (λ i. or_nullable (nullability_of (c.dtype.ensures i)) (or_nullable (nullability_of (c.dtype-2.ensures i)) (nullability_of (c.dtype-3.ensures i)))) in
    let r = c.rows_of-rows.ensures.rows ∙ c.in_ok-read.ensures.rows in
    let l = c.rows_of-lows.ensures.rows ∙ c.in_ok-low_read.ensures.rows in
    let h = c.rows_of-highs.ensures.rows ∙ c.in_ok-high_read.ensures.rows in
    ap (list_all (fits (types.boolean n))) c.in_ok-truths.ensures
    ∙ within-fit (column_of c.args.array.now) (column_of c.args.low.now) (column_of c.args.high.now) n _ _ _ e r l h c.args.options (read-column c.args.array.now (held c.in_ok-read.read) (lent_rows c.rows_of-rows.result) c.in_ok-read.ensures c.rows_of-rows.ensures.rows c.rows_of-rows.ensures.fit)
    (read-column c.args.low.now (held c.in_ok-low_read.low_read) (lent_rows c.rows_of-lows.result) c.in_ok-low_read.ensures c.rows_of-lows.ensures.rows c.rows_of-lows.ensures.fit) (read-column c.args.high.now (held c.in_ok-high_read.high_read) (lent_rows c.rows_of-highs.result) c.in_ok-high_read.ensures c.rows_of-highs.ensures.rows c.rows_of-highs.ensures.fit)

pub returns : goal.returns
returns c =
    let n = c.nullability_within-nullability.result in
    let e = c.nullability_within-nullability.ensures ∙ (λ i. or_nullable (nullability_of (c.dtype.ensures i)) (or_nullable (nullability_of (c.dtype-2.ensures i)) (nullability_of (c.dtype-3.ensures i)))) in
    let r = c.rows_of-rows.ensures.rows ∙ c.in_ok-read.ensures.rows in
    let l = c.rows_of-lows.ensures.rows ∙ c.in_ok-low_read.ensures.rows in
    let h = c.rows_of-highs.ensures.rows ∙ c.in_ok-high_read.ensures.rows in
    within-made (column_of c.args.array.now) (column_of c.args.low.now) (column_of c.args.high.now) n _ _ _ e r l h c.args.options _ (c.into_tree.ensures ∙ ap (column (types.boolean n)) c.in_ok-truths.ensures)
