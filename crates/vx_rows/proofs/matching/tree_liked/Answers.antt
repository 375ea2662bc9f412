use Rattle.std.proofs.Common.{◌∙◌, ap, length, sym}
use Rattle.std.specs.List.{list_all}
use Rattle.std.specs.Prelude.{replicate}
use Rattle.std.proofs.lemmas.List.{length-replicate}
use Rattle.vx_base.specs.PlainScalar.{fits}
use Rattle.vx_base.specs.PlainType as types
use Rattle.vx_base.specs.PlainType.{is_flat, is_text, nullability_of, or_nullable}
use Rattle.vx_model.specs.Column.{column, column_of}
use Rattle.vx_model.specs.TreeType.{tree_type}
use Rattle.vx_rules.specs.Operations.{repeated}
use Rattle.vx_rows.specs.Readable.{held, lent_rows}
use Rattle.vx_rows.proofs.AnswerLemmas.{liked-fit, liked-made}
use Rattle.vx_rows.proofs.ReadLemmas.{read-column}
use Rattle.vx_rows.proofs.TextLemmas.{text-flat, texts-fit}
use Rattle.vx_rows.proofs.matching.tree_liked.Goals as goal

pub readable-requires : goal.readable-requires
readable-requires c = text-flat (tree_type c.args.array.now) c.requires.texts

pub rows_of-texts-requires-clause-flat : goal.rows_of-texts-requires-clause-flat
rows_of-texts-requires-clause-flat c = ap is_flat c.in_ok-read.ensures.dtype ∙ text-flat (tree_type c.args.array.now) c.requires.texts

pub rows_of-texts-requires-clause-readable : goal.rows_of-texts-requires-clause-readable
rows_of-texts-requires-clause-readable c = c.in_ok-read.ensures.readable

pub same_rows-pattern_rows-requires : goal.same_rows-pattern_rows-requires
same_rows-pattern_rows-requires c = text-flat c.args.pattern.now.dtype c.requires.pattern

pub liked_rows-requires-clause-lengths : goal.liked_rows-requires-clause-lengths
liked_rows-requires-clause-lengths c = ap length (c.rows_of-texts.ensures.rows ∙ c.in_ok-read.ensures.rows) ∙ sym (ap length c.same_rows-pattern_rows.ensures.rows ∙ length-replicate c.len.result c.args.pattern.now.value ∙ c.len.ensures)

pub liked_rows-requires-clause-utf8 : goal.liked_rows-requires-clause-utf8
liked_rows-requires-clause-utf8 c = texts-fit (tree_type (held c.in_ok-read.read)) (lent_rows c.rows_of-texts.result) (ap is_text c.in_ok-read.ensures.dtype ∙ c.requires.texts) c.rows_of-texts.ensures.fit

pub liked_rows-requires-clause-utf8_patterns : goal.liked_rows-requires-clause-utf8_patterns
liked_rows-requires-clause-utf8_patterns c = texts-fit c.args.pattern.now.dtype (lent_rows c.same_rows-pattern_rows.result) c.requires.pattern c.same_rows-pattern_rows.ensures.fit

pub into_tree-requires : goal.into_tree-requires
into_tree-requires c =
    let n = c.either_nullability-nullability.result in
    let e = c.either_nullability-nullability.ensures ∙ (λ i. or_nullable (nullability_of (c.dtype.ensures i)) (nullability_of (c.dtype-2.ensures i))) in
    let l = c.rows_of-texts.ensures.rows ∙ c.in_ok-read.ensures.rows in
    let r = c.same_rows-pattern_rows.ensures.rows ∙ ap (λ k. replicate k c.args.pattern.now.value) c.len.ensures in
    ap (list_all (fits (types.boolean n))) c.in_ok-truths.ensures
    ∙ liked-fit (column_of c.args.array.now) (repeated c.args.pattern.now (column_of c.args.array.now)) n _ _ e l r c.args.options (read-column c.args.array.now (held c.in_ok-read.read) (lent_rows c.rows_of-texts.result) c.in_ok-read.ensures c.rows_of-texts.ensures.rows c.rows_of-texts.ensures.fit) (sym (ap (list_all (fits c.args.pattern.now.dtype)) (c.same_rows-pattern_rows.ensures.rows ∙ ap (λ k. replicate k c.args.pattern.now.value) c.len.ensures)) ∙ c.same_rows-pattern_rows.ensures.fit)

pub returns : goal.returns
returns c =
    let n = c.either_nullability-nullability.result in
    let e = c.either_nullability-nullability.ensures ∙ (λ i. or_nullable (nullability_of (c.dtype.ensures i)) (nullability_of (c.dtype-2.ensures i))) in
    let l = c.rows_of-texts.ensures.rows ∙ c.in_ok-read.ensures.rows in
    let r = c.same_rows-pattern_rows.ensures.rows ∙ ap (λ k. replicate k c.args.pattern.now.value) c.len.ensures in
    liked-made (column_of c.args.array.now) (repeated c.args.pattern.now (column_of c.args.array.now)) n _ _ e l r c.args.options _ (c.into_tree.ensures ∙ ap (column (types.boolean n)) c.in_ok-truths.ensures)
