use Rattle.std.proofs.Common.{◌≡◌, ◌∙◌, sym, ap, None}
use Rattle.vx_model.specs.Column.{column_of}
use Rattle.vx_model.specs.Tree.{Tree, sparse_of}
use Rattle.vx_rules.specs.Conversions.{fill_null_refusal, null_filled}
use Rattle.vx_sparse.proofs.FilledRows.{same-refusal}
use Rattle.vx_sparse.proofs.HandedOn.{decided-error, decided-made}
use Rattle.vx_sparse.proofs.KernelTypes.{decides-ok}
use Rattle.vx_sparse.proofs.kernels.null_fills.filled.Goals as goal

pub over_filled-requires-clause-accepted : goal.over_filled-requires-clause-accepted
over_filled-requires-clause-accepted c =
    let v = c.args.value.now in
    let t = c.values.result.now in
    let made = decided-made (fill_null_refusal (column_of t) v) (λ out. column_of out ≡ null_filled (column_of t) v) c.in-Ok.values c.in-Ok.ensures.answer in
    ap (λ u. fill_null_refusal (column_of u) v) (sym c.values.ensures) ∙ made.0

pub over_filled-requires-clause-values : goal.over_filled-requires-clause-values
over_filled-requires-clause-values c =
    let v = c.args.value.now in
    let t = c.values.result.now in
    let made = decided-made (fill_null_refusal (column_of t) v) (λ out. column_of out ≡ null_filled (column_of t) v) c.in-Ok.values c.in-Ok.ensures.answer in
    made.1 ∙ ap (λ u. null_filled (column_of u) v) c.values.ensures

pub returns-in-Ok-clause-answer : goal.returns-in-Ok-clause-answer
returns-in-Ok-clause-answer c =
    let v = c.args.value.now in
    let p = c.args.patches.now in
    let fill = c.args.fill.now in
    let t = c.values.result.now in
    let made = decided-made (fill_null_refusal (column_of t) v) (λ out. column_of out ≡ null_filled (column_of t) v) c.in-Ok.values c.in-Ok.ensures.answer in
    let none : fill_null_refusal (column_of (sparse_of p fill)) v ≡ None = sym (same-refusal p fill v c.requires) ∙ ap (λ u. fill_null_refusal (column_of u) v) (sym c.values.ensures) ∙ made.0 in
    decides-ok (fill_null_refusal (column_of (sparse_of p fill)) v) (λ out. column_of out ≡ null_filled (column_of (sparse_of p fill)) v) c.over_filled.result none c.over_filled.ensures

pub returns-in-Err-clause-answer : goal.returns-in-Err-clause-answer
returns-in-Err-clause-answer c =
    let v = c.args.value.now in
    let p = c.args.patches.now in
    let fill = c.args.fill.now in
    let t = c.values.result.now in
    decided-error {A = Tree} (fill_null_refusal (column_of t) v) (fill_null_refusal (column_of (sparse_of p fill)) v) (λ out. column_of out ≡ null_filled (column_of t) v) (λ out. column_of out ≡ null_filled (column_of (sparse_of p fill)) v) c.in-Err.error
    (ap (λ u. fill_null_refusal (column_of u) v) c.values.ensures ∙ same-refusal p fill v c.requires) c.in-Err.ensures.answer
