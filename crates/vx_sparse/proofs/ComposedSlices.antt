-- A slice of a slice of a sparse tree is a slice.
use Rattle.std.proofs.Common.{◌≡◌, ◌∙◌, ◌+◌, sym, ap, subst}
use Rattle.std.specs.Prelude.{None}
use Rattle.vx_model.specs.Column.{column_of}
use Rattle.vx_model.specs.Tree.{sparse_of}
use Rattle.vx_model.proofs.SparseLemmas.{parts-sparse_of}
use Rattle.vx_rules.specs.Selections.{slice_refusal, sliced}
use Rattle.vx_rules.proofs.SliceLaws.{slices_compose}
use Rattle.vx_sparse.specs.Slices.{SparseSlicesCompose}
use Rattle.vx_sparse.proofs.KernelAnswers.{slice-column}

pub sparse_slices_compose : SparseSlicesCompose
sparse_slices_compose p fill start end from to w h k =
    let parts = parts-sparse_of p fill w in
    let c = column_of (sparse_of p fill) in
    let outer = slice-column p fill start end parts.0 parts.1.values_type h in
    let inner = subst (λ d. slice_refusal d from to ≡ None) outer k in
    let both = slices_compose c start end from to h inner in
    (both.0, ap (λ d. sliced d from to) outer ∙ both.1 ∙ sym (slice-column p fill (start + from) (start + to) parts.0 parts.1.values_type both.0))
