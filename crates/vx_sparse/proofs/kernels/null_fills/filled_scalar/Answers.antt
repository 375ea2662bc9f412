use Rattle.std.proofs.Common.{◌≡◌, ◌∙◌, sym, ap, subst, cond, None}
use Rattle.vx_base.specs.Answers.{Answers, Decided}
use Rattle.vx_base.specs.Casts.{cast_refusal}
use Rattle.vx_base.specs.PlainScalar.{scalar}
use Rattle.vx_base.specs.PlainValue.{is_null}
use Rattle.vx_base.specs.TypeOf.{type_of}
use Rattle.vx_sparse.proofs.FilledRows.{base-cast}
use Rattle.vx_sparse.proofs.kernels.null_fills.filled_scalar.Goals as goal

pub returns-then-is_null : goal.returns-then-is_null
returns-then-is_null c =
    let fill = c.args.fill.now in
    let v = c.args.value.now in
    let same : v ≡ scalar v.dtype (cond (is_null fill.value) v.value fill.value) = λ i. scalar v.dtype (cond (sym (sym c.is_null.ensures ∙ c.if-is_null.true) i) v.value fill.value) in
    subst (Answers c.copy.result) same c.copy.ensures

pub returns : goal.returns
returns c =
    let fill = c.args.fill.now in
    let v = c.args.value.now in
    let valid = sym c.is_null.ensures ∙ c.if-is_null.false in
    let kind = c.dtype.ensures in
    let none : cast_refusal fill.dtype (type_of c.dtype.result.now) fill.value ≡ None = ap (λ t. cast_refusal fill.dtype t fill.value) kind ∙ base-cast fill.dtype v.dtype fill.value c.requires valid c.known.ensures in
    let same : scalar (type_of c.dtype.result.now) fill.value ≡ scalar v.dtype (cond (is_null fill.value) v.value fill.value) = λ i. scalar (kind i) (cond (sym valid i) v.value fill.value) in
    subst (Answers c.cast.result) same (subst (λ o. Decided o (λ s. s ≡ scalar (type_of c.dtype.result.now) fill.value) c.cast.result) none c.cast.ensures)
