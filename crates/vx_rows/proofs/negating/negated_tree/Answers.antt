use Rattle.std.proofs.Common.{◌∙◌, ap, map, sym}
use Rattle.std.specs.List.{list_all}
use Rattle.vx_base.specs.PlainScalar.{fits}
use Rattle.vx_base.specs.PlainType as types
use Rattle.vx_base.specs.PlainType.{is_flat, nullability_of}
use Rattle.vx_model.specs.Column.{column}
use Rattle.vx_model.specs.TreeType.{tree_type}
use Rattle.vx_rows.specs.Readable.{lent_rows}
use Rattle.vx_rules.specs.Comparisons.{negated}
use Rattle.vx_rows.proofs.AnswerLemmas.{boolean-is, negated-fit}
use Rattle.vx_rows.proofs.negating.negated_tree.Goals as goal

pub readable-requires : goal.readable-requires
readable-requires c = ap is_flat (sym (boolean-is (tree_type c.args.array.now) c.requires))

pub rows_of-rows-requires-clause-flat : goal.rows_of-rows-requires-clause-flat
rows_of-rows-requires-clause-flat c = ap is_flat c.in_ok-read.ensures.dtype ∙ ap is_flat (sym (boolean-is (tree_type c.args.array.now) c.requires))

pub rows_of-rows-requires-clause-readable : goal.rows_of-rows-requires-clause-readable
rows_of-rows-requires-clause-readable c = c.in_ok-read.ensures.readable

pub into_tree-requires : goal.into_tree-requires
into_tree-requires c =
    let n = c.nullability-nullability.ensures ∙ ap nullability_of c.dtype.ensures in
    let t = ap types.boolean n ∙ boolean-is (tree_type c.args.array.now) c.requires in
    let rows = lent_rows c.rows_of-rows.result in
    ap (list_all (fits (types.boolean c.nullability-nullability.result))) c.in_ok-truths.ensures
    ∙ negated-fit c.nullability-nullability.result rows (ap (λ s. list_all (fits s) rows) (t ∙ sym c.in_ok-read.ensures.dtype) ∙ c.rows_of-rows.ensures.fit)

pub returns : goal.returns
returns c =
    let n = c.nullability-nullability.ensures ∙ ap nullability_of c.dtype.ensures in
    let t = ap types.boolean n ∙ boolean-is (tree_type c.args.array.now) c.requires in
    let r = c.rows_of-rows.ensures.rows ∙ c.in_ok-read.ensures.rows in
    c.into_tree.ensures ∙ (λ i. column (t i) ((c.in_ok-truths.ensures ∙ ap (map negated) r) i))
