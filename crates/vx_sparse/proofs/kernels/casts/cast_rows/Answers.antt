use Rattle.std.proofs.Common.{◌≡◌, ◌∙◌, sym, ap}
use Rattle.vx_base.specs.TypeOf.{type_of}
use Rattle.vx_model.specs.Column.{Column, column_of}
use Rattle.vx_model.specs.Tree.{Tree, sparse_of}
use Rattle.vx_rules.specs.Conversions.{cast_refusal, casted}
use Rattle.vx_sparse.proofs.CastRows.{values-refused}
use Rattle.vx_sparse.proofs.HandedOn.{follows-error, follows-made}
use Rattle.vx_sparse.proofs.kernels.casts.cast_rows.Goals as goal

pub over_cast-requires-clause-accepted : goal.over_cast-requires-clause-accepted
over_cast-requires-clause-accepted c =
    let t = type_of c.args.dtype.now in
    let own = c.values.result.now in
    let made = follows-made (λ (out : Tree) (column : Column). column_of out ≡ column) (cast_refusal (column_of own) t) (casted (column_of own) t) c.in-Ok.values c.in-Ok.ensures.answer in
    ap (λ u. cast_refusal (column_of u) t) (sym c.values.ensures) ∙ made.0

pub over_cast-requires-clause-values : goal.over_cast-requires-clause-values
over_cast-requires-clause-values c =
    let t = type_of c.args.dtype.now in
    let own = c.values.result.now in
    let made = follows-made (λ (out : Tree) (column : Column). column_of out ≡ column) (cast_refusal (column_of own) t) (casted (column_of own) t) c.in-Ok.values c.in-Ok.ensures.answer in
    made.1 ∙ ap (λ u. casted (column_of u) t) c.values.ensures

pub returns-in-Err-clause-answer : goal.returns-in-Err-clause-answer
returns-in-Err-clause-answer c =
    let p = c.args.patches.now in
    let fill = c.args.fill.now in
    let t = type_of c.args.dtype.now in
    let own = c.values.result.now in
    follows-error (λ (out : Tree) (column : Column). column_of out ≡ column) (cast_refusal (column_of own) t) (cast_refusal (column_of (sparse_of p fill)) t) (casted (column_of own) t) (casted (column_of (sparse_of p fill)) t) c.in-Err.error
    (λ e h. values-refused p fill t c.known.ensures c.requires e (ap (λ u. cast_refusal (column_of u) t) (sym c.values.ensures) ∙ h)) c.in-Err.ensures.answer
