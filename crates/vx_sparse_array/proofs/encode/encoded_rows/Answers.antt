use Rattle.std.proofs.Common.{◌≡◌, ◌*◌, ◌∙◌, true, false, length, sym, ap, subst}
use Rattle.std.specs.Prelude.{nat_lt, option_copied}
use Rattle.vx_model.specs.Column.{column_of}
use Rattle.vx_model.specs.Rows.{rows}
use Rattle.vx_model.specs.TreeType.{tree_type}
use Rattle.vx_stats.specs.Stats.{null_count}
use Rattle.vx_sparse_array.specs.Encoded.{AnswersAs, fill_for, filled_by, is_fill_of}
use Rattle.vx_sparse_array.specs.Filling.{is_mostly_null}
use Rattle.vx_sparse_array.proofs.EncodedLemmas.{encoded-filled, encoded-mostly, encoded-nulls}
use Rattle.vx_sparse_array.proofs.NullCounts.{all-counted}
use Rattle.vx_sparse_array.proofs.encode.encoded_rows.Goals as goal

pub null_tree-requires-clause-nulls : goal.null_tree-requires-clause-nulls
null_tree-requires-clause-nulls c = all-counted (rows c.args.array.now) (sym c.null_count-nulls.ensures.count ∙ c.if-nulls-rows.true ∙ c.len-rows.ensures)

pub returns-then-nulls-rows-clause-answer : goal.returns-then-nulls-rows-clause-answer
returns-then-nulls-rows-clause-answer c =
    let col = column_of c.args.array.now in
    subst (λ x. AnswersAs x c.null_tree.result) (sym (encoded-nulls col (option_copied c.args.fill) (sym c.null_count-nulls.ensures.count ∙ c.if-nulls-rows.true ∙ c.len-rows.ensures))) c.null_tree.ensures

pub over_most_nulls-requires-clause-mostly : goal.over_most_nulls-requires-clause-mostly
over_most_nulls-requires-clause-mostly c = (λ i. nat_lt (9 * sym c.len-rows.ensures i) (10 * sym c.null_count-nulls.ensures.count i)) ∙ sym c.is_mostly_null.ensures ∙ c.if-is_mostly_null.true

pub returns-then-is_mostly_null-clause-answer : goal.returns-then-is_mostly_null-clause-answer
returns-then-is_mostly_null-clause-answer c =
    let col = column_of c.args.array.now in
    let most : is_mostly_null col.values ≡ true = (λ i. nat_lt (9 * sym c.len-rows.ensures i) (10 * sym c.null_count-nulls.ensures.count i)) ∙ sym c.is_mostly_null.ensures ∙ c.if-is_mostly_null.true in
    let other : null_count col.values ≡ length col.values → ⊥ = λ e. c.if-nulls-rows.false (c.null_count-nulls.ensures.count ∙ e ∙ sym c.len-rows.ensures) in
    subst (λ x. AnswersAs x c.over_most_nulls.result) (sym (encoded-mostly col (option_copied c.args.fill) other most)) c.over_most_nulls.ensures

pub over_fill-requires : goal.over_fill-requires
over_fill-requires c = subst (λ o. is_fill_of (tree_type c.args.array.now) (option_copied o) ≡ true) c.in-Some.is c.requires.fill

pub returns-in-Some-clause-answer : goal.returns-in-Some-clause-answer
returns-in-Some-clause-answer c =
    let col = column_of c.args.array.now in
    let few : is_mostly_null col.values ≡ false = (λ i. nat_lt (9 * sym c.len-rows.ensures i) (10 * sym c.null_count-nulls.ensures.count i)) ∙ sym c.is_mostly_null.ensures ∙ c.if-is_mostly_null.false in
    let other : null_count col.values ≡ length col.values → ⊥ = λ e. c.if-nulls-rows.false (c.null_count-nulls.ensures.count ∙ e ∙ sym c.len-rows.ensures) in
    subst (λ x. AnswersAs x c.over_fill.result) (sym (encoded-filled col (option_copied c.args.fill) other few ∙ ap (λ o. filled_by col (fill_for col (option_copied o))) c.in-Some.is)) c.over_fill.ensures

pub returns-in-None-clause-answer : goal.returns-in-None-clause-answer
returns-in-None-clause-answer c =
    let col = column_of c.args.array.now in
    let few : is_mostly_null col.values ≡ false = (λ i. nat_lt (9 * sym c.len-rows.ensures i) (10 * sym c.null_count-nulls.ensures.count i)) ∙ sym c.is_mostly_null.ensures ∙ c.if-is_mostly_null.false in
    let other : null_count col.values ≡ length col.values → ⊥ = λ e. c.if-nulls-rows.false (c.null_count-nulls.ensures.count ∙ e ∙ sym c.len-rows.ensures) in
    subst (λ x. AnswersAs x c.over_frequent.result) (sym (encoded-filled col (option_copied c.args.fill) other few ∙ ap (λ o. filled_by col (fill_for col (option_copied o))) c.in-None.is)) c.over_frequent.ensures.answer
