use Rattle.std.proofs.Common.{◌^◌, ◌∙◌, ap, sym, subst, arith}
use Rattle.vx_base.specs.Answers.{Answers}
use Rattle.vx_model.specs.Column.{column_of}
use Rattle.vx_model.specs.Plain.{plain}
use Rattle.vx_model.specs.Rows.{rows}
use Rattle.vx_model.specs.WellFormed.{ascend}
use Rattle.vx_sparse_array.specs.Filling.{null_filling}
use Rattle.vx_sparse_array.proofs.FillingLemmas.{patched_rows-under}
use Rattle.vx_schemes_common.specs.Narrowed.{narrowed_numbers, number_rows}
use Rattle.vx_schemes_text.specs.NullSparse.Tree.{is_null_dominated, value_indices}
use Rattle.vx_schemes_text.proofs.SparseParts.{dominated-told, kept-split, parts-split}
use Rattle.vx_schemes_text.proofs.string.sparse.tree.split_by.Goals as goal

pub returns-then-not-is_null_dominated : goal.returns-then-not-is_null_dominated
returns-then-not-is_null_dominated c =
    let t = c.args.array.now in
    let told = c.is_null_dominated.ensures ∙ dominated-told (rows t) c.len.result c.value_count.result c.len.ensures c.value_count.ensures.count in
    kept-split (is_null_dominated (rows t)) (value_indices (column_of t)) (sym told ∙ c.if-not-is_null_dominated.true)

pub narrowed_rising-requires : goal.narrowed_rising-requires
narrowed_rising-requires c = ap (λ ns. ascend 0 (2 ^ 64) (number_rows ns)) c.in_ok-text_rows.ensures ∙ patched_rows-under null_filling (rows c.args.array.now) (2 ^ 64) (omega (arith, c.requires.few))

pub returns : goal.returns
returns c =
    let t = c.args.array.now in
    let told = c.is_null_dominated.ensures ∙ dominated-told (rows t) c.len.result c.value_count.result c.len.ensures c.value_count.ensures.count in
    let part = c.in_ok-narrowed_rising.ensures ∙ ap (λ ns. plain (narrowed_numbers ns)) c.in_ok-text_rows.ensures in
    subst (Answers c.one_part.result) (parts-split (is_null_dominated (rows t)) (value_indices (column_of t)) _ (sym told ∙ c.if-not-is_null_dominated.false) part) c.one_part.ensures
