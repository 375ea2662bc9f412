use Rattle.std.proofs.Common.{◌≡◌, sym, ap, subst}
use Rattle.std.specs.Prelude.{Ok, Err}
use Rattle.vx_base.specs.Answers.{Answers, Decided}
use Rattle.vx_base.specs.Casts.{cast_refusal}
use Rattle.vx_base.specs.declared.ptype.PType.TheVariants.{U64}
use Rattle.vx_base.specs.PlainScalar.{scalar}
use Rattle.vx_model.specs.Column.{column_of}
use Rattle.vx_sparse_array.specs.Encoded.{AnswersAs}
use Rattle.vx_sparse_array.specs.Filling.{filled_tree, value_filling}
use Rattle.vx_sparse_array.proofs.EncodedLemmas.{cast-err, cast-ok}
use Rattle.vx_sparse_array.proofs.encode.over_fill.Goals as goal

pub over_cast-requires : goal.over_cast-requires
over_cast-requires c =
    let f = c.args.fill.now in
    let d = subst (λ t. Decided (cast_refusal f.dtype t f.value) (λ s. s ≡ scalar t f.value) (Ok c.in-Ok.fill)) c.dtype.ensures c.in-Ok.ensures in
    ap (λ s. s.dtype) (cast-ok (column_of c.args.array.now) f c.requires c.in-Ok.fill d).1

pub returns-in-Ok : goal.returns-in-Ok
returns-in-Ok c =
    let f = c.args.fill.now in
    let col = column_of c.args.array.now in
    let d = subst (λ t. Decided (cast_refusal f.dtype t f.value) (λ s. s ≡ scalar t f.value) (Ok c.in-Ok.fill)) c.dtype.ensures c.in-Ok.ensures in
    let ok = cast-ok col f c.requires c.in-Ok.fill d in
    subst (λ x. AnswersAs x c.over_cast.result) (sym ok.0) (subst (λ s. Answers c.over_cast.result (filled_tree U64 (value_filling s.value) col)) ok.1 c.over_cast.ensures)

pub returns-in-Err : goal.returns-in-Err
returns-in-Err c =
    let f = c.args.fill.now in
    let d = subst (λ t. Decided (cast_refusal f.dtype t f.value) (λ s. s ≡ scalar t f.value) (Err c.in-Err.error)) c.dtype.ensures c.in-Err.ensures in
    cast-err (column_of c.args.array.now) f c.requires _ c.in-Err.error d
