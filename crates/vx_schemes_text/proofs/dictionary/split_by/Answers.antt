use Rattle.std.proofs.Common.{◌∙◌, sym, subst}
use Rattle.vx_base.specs.Answers.{Answers}
use Rattle.vx_model.specs.Column.{column_of}
use Rattle.vx_schemes_text.proofs.DictionaryParts.{kept-split, parts-split}
use Rattle.vx_schemes_text.proofs.dictionary.split_by.Goals as goal

pub returns-then-value_count-eq0 : goal.returns-then-value_count-eq0
returns-then-value_count-eq0 c = kept-split (column_of c.args.array.now) (sym c.value_count.ensures.count ∙ c.if-value_count-eq0.true)

pub returns : goal.returns
returns c =
    subst (Answers c.two_parts.result) (parts-split (column_of c.args.array.now) _ (λ e. c.if-value_count-eq0.false (c.value_count.ensures.count ∙ e)) c.in_ok-values.ensures) c.two_parts.ensures
