use Rattle.std.proofs.Common.{◌≡◌, ◌<◌, ◌∙◌, length, sym, ap, subst, arith, None, Ok}
use Rattle.vx_base.specs.Casts as scalars
use Rattle.vx_base.specs.PlainScalar.{PlainScalar, scalar}
use Rattle.vx_base.specs.TypeOf.{type_of}
use Rattle.vx_model.specs.Column.{Column, column_of}
use Rattle.vx_model.specs.Rows.{rows}
use Rattle.vx_model.specs.Tree.{Tree, sparse, sparse_of}
use Rattle.vx_rules.specs.Conversions.{cast_refusal, casted}
use Rattle.vx_rules.specs.Outcomes.{Follows, outcome}
use Rattle.vx_sparse.specs.Kernels.{unpatched}
use Rattle.vx_sparse.proofs.CastRows.{cast-sparse, column-patched, fill-refused}
use Rattle.vx_sparse.proofs.HandedOn.{decided-made, follows-decided, follows-memory}
use Rattle.vx_sparse.proofs.KernelTypes.{or_memory-more}
use Rattle.vx_sparse.proofs.kernels.casts.over_cast.Goals as goal

pub returns-then-others-eq0 : goal.returns-then-others-eq0
returns-then-others-eq0 c =
    let p = c.args.patches.now in
    let fill = c.args.fill.now in
    let t = type_of c.args.dtype.now in
    let none : unpatched p ≡ 0 = omega (arith, c.unpatched-others.ensures.rows, c.if-others-eq0.true) in
    let same = column-patched p fill t c.known.ensures c.requires.typed none in
    subst (λ k. Follows (outcome (cast_refusal k t) (casted k t)) (λ (out : Tree) (column : Column). column_of out ≡ column) (Ok c.args.values)) (sym same)
    (follows-memory (λ (out : Tree) (column : Column). column_of out ≡ column) (cast_refusal (column_of p.values) t) (casted (column_of p.values) t) (Ok c.args.values) c.requires.accepted c.requires.values)

pub over_patches-requires-clause-lengths : goal.over_patches-requires-clause-lengths
over_patches-requires-clause-lengths c = ap (λ k. length k.values) c.requires.values

pub over_patches-requires-clause-typed : goal.over_patches-requires-clause-typed
over_patches-requires-clause-typed c =
    let fill = c.args.fill.now in
    let t = type_of c.args.dtype.now in
    let made = decided-made (scalars.cast_refusal fill.dtype t fill.value) (λ (s : PlainScalar). s ≡ scalar t fill.value) c.in-Ok.other c.in-Ok.ensures in
    ap (λ k. k.dtype) c.requires.values ∙ ap (λ s. s.dtype) (sym made.1)

pub returns-in-Ok : goal.returns-in-Ok
returns-in-Ok c =
    let p = c.args.patches.now in
    let fill = c.args.fill.now in
    let t = type_of c.args.dtype.now in
    let some : 0 < unpatched p = omega (arith, c.unpatched-others.ensures.rows, c.if-others-eq0.false) in
    let made = decided-made (scalars.cast_refusal fill.dtype t fill.value) (λ (s : PlainScalar). s ≡ scalar t fill.value) c.in-Ok.other c.in-Ok.ensures in
    let none : cast_refusal (column_of (sparse_of p fill)) t ≡ None = sym (fill-refused p fill t c.known.ensures c.requires.typed c.requires.accepted some) ∙ made.0 in
    let whole = cast-sparse p fill t c.known.ensures c.requires.typed c.args.values c.in-Ok.other c.requires.values made.1 in
    follows-memory (λ (out : Tree) (column : Column). column_of out ≡ column) (cast_refusal (column_of (sparse_of p fill)) t) (casted (column_of (sparse_of p fill)) t) c.over_patches.result none
    (or_memory-more (λ out. out ≡ sparse p.array_len p.offset p.indices c.args.values c.in-Ok.other) (λ out. column_of out ≡ casted (column_of (sparse_of p fill)) t) c.over_patches.result (λ out e. ap column_of e ∙ whole) c.over_patches.ensures)

pub returns-in-Err : goal.returns-in-Err
returns-in-Err c =
    let p = c.args.patches.now in
    let fill = c.args.fill.now in
    let t = type_of c.args.dtype.now in
    let some : 0 < unpatched p = omega (arith, c.unpatched-others.ensures.rows, c.if-others-eq0.false) in
    follows-decided (λ (out : Tree) (column : Column). column_of out ≡ column) (scalars.cast_refusal fill.dtype t fill.value) (cast_refusal (column_of (sparse_of p fill)) t) (λ (s : PlainScalar). s ≡ scalar t fill.value)
    (casted (column_of (sparse_of p fill)) t) c.in-Err.error (fill-refused p fill t c.known.ensures c.requires.typed c.requires.accepted some) c.in-Err.ensures
