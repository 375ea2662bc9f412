use Rattle.std.proofs.Common.{◌≡◌, ◌∙◌, sym, ap}
use Rattle.vx_model.specs.Column.{column_of}
use Rattle.vx_model.specs.Tree.{sparse, sparse_of}
use Rattle.vx_rules.specs.Conversions.{null_filled}
use Rattle.vx_sparse.proofs.FilledRows.{base-accepted, filled-lengths, filled-sparse, filled-type}
use Rattle.vx_sparse.proofs.KernelTypes.{or_memory-more}
use Rattle.vx_sparse.proofs.kernels.null_fills.over_filled.Goals as goal

pub filled_scalar-requires : goal.filled_scalar-requires
filled_scalar-requires c = base-accepted c.args.patches.now c.args.fill.now c.args.value.now c.requires.typed c.requires.accepted

pub over_patches-requires-clause-lengths : goal.over_patches-requires-clause-lengths
over_patches-requires-clause-lengths c = filled-lengths c.args.patches.now c.args.fill.now c.args.value.now c.requires.typed c.args.values c.requires.values

pub over_patches-requires-clause-typed : goal.over_patches-requires-clause-typed
over_patches-requires-clause-typed c =
    filled-type c.args.patches.now c.args.fill.now c.args.value.now c.requires.typed c.args.values c.requires.values ∙ ap (λ s. s.dtype) (sym c.in_ok-other.ensures)

pub returns : goal.returns
returns c =
    let p = c.args.patches.now in
    let fill = c.args.fill.now in
    let v = c.args.value.now in
    let whole = filled-sparse p fill v c.requires.typed c.args.values c.requires.values c.in_ok-other.other c.in_ok-other.ensures in
    or_memory-more (λ out. out ≡ sparse p.array_len p.offset p.indices c.args.values c.in_ok-other.other) (λ out. column_of out ≡ null_filled (column_of (sparse_of p fill)) v) c.over_patches.result
    (λ out e. ap column_of e ∙ whole) c.over_patches.ensures
