use Rattle.std.proofs.Common.{◌∙◌, sym, ap, length, arith}
use Rattle.std.specs.Prelude.{◌≢◌}
use Rattle.vx_model.specs.Column.{column_of}
use Rattle.vx_model.specs.Leaf.{smaller_or_plain}
use Rattle.vx_model.specs.Rows.{rows, row_at}
use Rattle.vx_scheme.specs.Contexts.{site_of}
use Rattle.vx_compressor.proofs.ByValueLemmas.{decided-empty, decided-nulls, decided-one, open-sampled, open-many}
use Rattle.vx_compressor.proofs.by_value.by_value.Goals as goal

pub returns-then-len-eq0 : goal.returns-then-len-eq0
returns-then-len-eq0 c = decided-empty c.args.plain.now (site_of c.args.site.now) c.in_ok-copy.field-0 c.requires.plain (omega arith) c.in_ok-copy.ensures

pub returns-in_ok-null_tree-in-Nothing : goal.returns-in_ok-null_tree-in-Nothing
returns-in_ok-null_tree-in-Nothing c =
    let full : length (rows c.args.plain.now) ≢ 0 = omega arith in
    decided-nulls c.args.plain.now (site_of c.args.site.now) c.in_ok-null_tree-in-Nothing.field-0 full c.in-Nothing.ensures c.in_ok-null_tree-in-Nothing.ensures

pub returns-then-is_sample : goal.returns-then-is_sample
returns-then-is_sample c =
    let t = c.args.plain.now in
    open-sampled t (site_of c.args.site.now) (row_at (rows t) c.in-One.row) c.in-One.ensures.1 (sym c.is_sample.ensures ∙ c.if-is_sample.true)

pub returns-in_ok-smaller_or_copy-in-One : goal.returns-in_ok-smaller_or_copy-in-One
returns-in_ok-smaller_or_copy-in-One c =
    let t = c.args.plain.now in
    decided-one t (site_of c.args.site.now) (row_at (rows t) c.in-One.row) c.in-One.ensures.1 c.in_ok-smaller_or_copy-in-One.field-0 (sym c.is_sample.ensures ∙ c.if-is_sample.false) c.in-One.ensures.2
    (c.in_ok-smaller_or_copy-in-One.ensures ∙ ap (smaller_or_plain (column_of t)) c.in_ok-tree-in-One.ensures)

pub returns-in-Many : goal.returns-in-Many
returns-in-Many c = open-many c.args.plain.now (site_of c.args.site.now) _ c.in-Many.ensures.1 c.in-Many.ensures.2
