use Rattle.std.proofs.Common.{◌≡◌, ◌^◌, ◌∙◌, true, false, length, refl, sym, ap, subst, arith}
use Rattle.std.specs.Prelude.{option_copied, Err}
use Rattle.std.proofs.lemmas.Bool.{ltb-true}
use Rattle.vx_base.specs.declared.error.VortexError.TheVariants.{MismatchedTypes, TooManyRows}
use Rattle.vx_model.specs.Column.{column_of}
use Rattle.vx_model.specs.Rows.{rows}
use Rattle.vx_sparse_array.specs.Encoded.{AnswersAs, is_fill_of}
use Rattle.vx_sparse_array.proofs.EncodedLemmas.{encoded-empty, encoded-many, encoded-mismatched, encoded-some}
use Rattle.vx_sparse_array.proofs.encode.Sparse.encode.Goals as goal

pub returns-then-not-is_fill_of-clause-answer : goal.returns-then-not-is_fill_of-clause-answer
returns-then-not-is_fill_of-clause-answer c =
    let col = column_of c.args.array.now in
    let fill = option_copied c.args.fill_value in
    let h : is_fill_of col.dtype fill ≡ false = ap (λ t. is_fill_of t fill) (sym c.dtype.ensures) ∙ sym c.is_fill_of.ensures ∙ c.if-not-is_fill_of.true in
    subst (λ x. AnswersAs x (Err MismatchedTypes)) (sym (encoded-mismatched col fill h)) refl

pub returns-then-not-is_countable-clause-answer : goal.returns-then-not-is_countable-clause-answer
returns-then-not-is_countable-clause-answer c =
    let col = column_of c.args.array.now in
    let fill = option_copied c.args.fill_value in
    let h : is_fill_of col.dtype fill ≡ true = ap (λ t. is_fill_of t fill) (sym c.dtype.ensures) ∙ sym c.is_fill_of.ensures ∙ c.if-not-is_fill_of.false in
    subst (λ x. AnswersAs x (Err TooManyRows)) (sym (encoded-many col fill h (sym c.is_countable.ensures ∙ c.if-not-is_countable.true))) refl

pub returns-then-len-eq0-clause-answer : goal.returns-then-len-eq0-clause-answer
returns-then-len-eq0-clause-answer c =
    let col = column_of c.args.array.now in
    let fill = option_copied c.args.fill_value in
    let h : is_fill_of col.dtype fill ≡ true = ap (λ t. is_fill_of t fill) (sym c.dtype.ensures) ∙ sym c.is_fill_of.ensures ∙ c.if-not-is_fill_of.false in
    subst (λ x. AnswersAs x c.canonical.result) (sym (encoded-empty col fill h (sym c.len.ensures ∙ c.if-len-eq0.true))) c.canonical.ensures.tree

pub encoded_rows-requires-clause-fill : goal.encoded_rows-requires-clause-fill
encoded_rows-requires-clause-fill c =
    let fill = option_copied c.args.fill_value in ap (λ t. is_fill_of t fill) (sym c.dtype.ensures) ∙ sym c.is_fill_of.ensures ∙ c.if-not-is_fill_of.false

pub encoded_rows-requires-clause-some : goal.encoded_rows-requires-clause-some
encoded_rows-requires-clause-some c = let none : length (rows c.args.array.now) ≡ 0 → ⊥ = λ e. c.if-len-eq0.false (c.len.ensures ∙ e) in omega (arith, none)

pub encoded_rows-requires-clause-few : goal.encoded_rows-requires-clause-few
encoded_rows-requires-clause-few c = ltb-true (length (rows c.args.array.now)) (2 ^ 32) (sym c.is_countable.ensures ∙ c.if-not-is_countable.false)

pub returns-clause-answer : goal.returns-clause-answer
returns-clause-answer c =
    let col = column_of c.args.array.now in
    let fill = option_copied c.args.fill_value in
    let h : is_fill_of col.dtype fill ≡ true = ap (λ t. is_fill_of t fill) (sym c.dtype.ensures) ∙ sym c.is_fill_of.ensures ∙ c.if-not-is_fill_of.false in
    subst (λ x. AnswersAs x c.encoded_rows.result) (sym (encoded-some col fill h (sym c.is_countable.ensures ∙ c.if-not-is_countable.false) (λ e. c.if-len-eq0.false (c.len.ensures ∙ e)))) c.encoded_rows.ensures.answer
