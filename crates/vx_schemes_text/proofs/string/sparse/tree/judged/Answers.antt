use Rattle.std.proofs.Common.{◌∙◌, sym}
use Rattle.vx_model.specs.Column.{column_of}
use Rattle.vx_model.specs.Rows.{rows}
use Rattle.vx_schemes_text.proofs.SparseParts.{dominated-told, ratio-told, skip-told}
use Rattle.vx_schemes_text.proofs.string.sparse.tree.judged.Goals as goal

pub returns-then-is_null_dominated : goal.returns-then-is_null_dominated
returns-then-is_null_dominated c =
    let t = c.args.array.now in
    let told = c.is_null_dominated.ensures ∙ dominated-told (rows t) c.len-rows.result c.value_count-values.result c.len-rows.ensures c.value_count-values.ensures.count in
    ratio-told (column_of t) c.new.result (sym told ∙ c.if-is_null_dominated.true) (c.new.ensures.num ∙ c.len-rows.ensures) (c.new.ensures.den ∙ c.value_count-values.ensures.count)

pub returns-else-is_null_dominated : goal.returns-else-is_null_dominated
returns-else-is_null_dominated c =
    let t = c.args.array.now in
    let told = c.is_null_dominated.ensures ∙ dominated-told (rows t) c.len-rows.result c.value_count-values.result c.len-rows.ensures c.value_count-values.ensures.count in
    skip-told (column_of t) (sym told ∙ c.if-is_null_dominated.false)
