use Rattle.std.proofs.Common.{◌≡◌, ◌∙◌, pos, ◌-ℤ◌, true, false, sym, ap, subst}
use Rattle.vx_base.specs.declared.dtype.Nullability.TheVariants.{Nullable}
use Rattle.vx_base.specs.declared.error.VortexError.TheVariants.{MismatchedTypes}
use Rattle.vx_base.specs.Answers.{SurelyDecided}
use Rattle.vx_base.specs.PlainScalar.{scalar}
use Rattle.vx_base.specs.PlainType as types
use Rattle.vx_model.specs.Column.{column_of}
use Rattle.vx_model.specs.Tree.{sparse_of}
use Rattle.vx_rules.specs.Aggregates.{or_null, sum, sum_ptype, sum_refusal}
use Rattle.vx_sparse.specs.Kernels.{is_summable}
use Rattle.vx_sparse.proofs.KernelAnswers.{sum-accepted, sum-is, sum-refused}
use Rattle.vx_sparse.proofs.KernelTypes.{surely-err, surely-ok}
use Rattle.vx_sparse.proofs.kernels.sums.sum.Goals as goal

pub returns-then-not-is_summable : goal.returns-then-not-is_summable
returns-then-not-is_summable c =
    let p = c.args.patches.now in
    let fill = c.args.fill.now in
    let col = column_of (sparse_of p fill) in
    let no : is_summable fill.dtype ≡ false = ap is_summable (sym c.dtype-kind.ensures) ∙ sym c.is_summable.ensures ∙ c.if-not-is_summable.true in
    surely-err (sum_refusal col) (λ s. s ≡ sum col) MismatchedTypes (sum-refused p fill no)

pub returns : goal.returns
returns c =
    let p = c.args.patches.now in
    let fill = c.args.fill.now in
    let col = column_of (sparse_of p fill) in
    let up = c.row_parts-up.result.0 in
    let down = c.row_parts-up.result.1 in
    let yes : is_summable fill.dtype ≡ true = ap is_summable (sym c.dtype-kind.ensures) ∙ sym c.is_summable.ensures ∙ c.if-not-is_summable.false in
    let kind : c.sum_ptype.result ≡ sum_ptype fill.dtype = c.sum_ptype.ensures ∙ ap sum_ptype c.dtype-kind.ensures in
    let same = ap (λ q. scalar (types.primitive q Nullable) (or_null q (pos up -ℤ pos down))) kind ∙ sum-is p fill up down c.row_parts-up.ensures in
    subst (λ r. SurelyDecided (sum_refusal col) (λ s. s ≡ sum col) r) (sym c.whole_scalar.ensures) (surely-ok (sum_refusal col) (λ s. s ≡ sum col) _ (sum-accepted p fill yes) same)
