use Rattle.std.proofs.Common.{◌≡◌, ◌∙◌, true, sym, ap, subst}
use Rattle.vx_base.specs.Answers.{Answers}
use Rattle.vx_base.specs.declared.ptype.PType.TheVariants.{U64}
use Rattle.vx_base.specs.PlainType.{is_integer}
use Rattle.vx_base.specs.PlainValue.{int}
use Rattle.vx_model.specs.Column.{column_of}
use Rattle.vx_model.specs.TreeType.{tree_type}
use Rattle.vx_stats.specs.Stats.{most_frequent}
use Rattle.vx_sparse_array.specs.Encoded.{AnswersAs}
use Rattle.vx_sparse_array.specs.Filling.{filled_tree, value_filling}
use Rattle.vx_sparse_array.proofs.EncodedLemmas.{frequent-fill}
use Rattle.vx_sparse_array.proofs.encode.over_frequent.Goals as goal

pub returns-clause-answer : goal.returns-clause-answer
returns-clause-answer c =
    let t = c.args.array.now in
    let p = c.in_ok-plain.plain in
    let r = c.over_value.result in
    let j : is_integer (tree_type t) ≡ true = ap is_integer (sym c.dtype.ensures) ∙ sym c.is_integer.ensures ∙ c.if-not-is_integer.false in
    let value = ap (λ s. s.value) c.in_ok-fill.ensures.answer in
    let own = subst (λ v. Answers r (filled_tree U64 (value_filling v) (column_of p))) value c.over_value.ensures in
    subst (λ x. AnswersAs x r) (sym (frequent-fill (column_of t) j)) (subst (λ d. Answers r (filled_tree U64 (value_filling (int (most_frequent d.values).0)) d)) c.in_ok-plain.ensures.column own)
