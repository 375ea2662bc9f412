use Rattle.std.proofs.Common.{◌≡◌, ◌∙◌, sym, subst}
use Rattle.vx_base.specs.Answers.{Decided}
use Rattle.vx_base.specs.PlainScalar.{PlainScalar}
use Rattle.vx_model.specs.Column.{column_of}
use Rattle.vx_model.specs.Tree.{PlainPatches, sparse_of}
use Rattle.vx_model.proofs.SparseLemmas.{sparse_of-alike}
use Rattle.vx_rules.specs.Selections.{slice_refusal, sliced}
use Rattle.vx_sparse.specs.Slices.{sliced_tree}
use Rattle.vx_sparse.proofs.KernelAnswers.{slice-column}
use Rattle.vx_sparse.proofs.KernelTypes.{decided-as, decided-if_ok, if_ok-more}
use Rattle.vx_sparse.proofs.kernels.arrays.SparseArraySparseKernels.slice.Goals as goal

pub returns-clause-answer : goal.returns-clause-answer
returns-clause-answer c =
    let p = c.parts.result.0.now in
    let fill = c.parts.result.1.now in
    let start = c.args.start in
    let end = c.args.end in
    subst (λ t. Decided (slice_refusal (column_of t) start end) (λ out. column_of out ≡ sliced (column_of t) start end) c.slice.result) (sym c.parts.ensures.tree)
    (decided-as (slice_refusal (column_of (sparse_of p fill)) start end) (λ out. column_of out ≡ sliced (column_of (sparse_of p fill)) start end) (sliced_tree p fill start end) c.slice.result
    (slice-column p fill start end c.known.ensures c.parts.ensures.typed) c.slice.ensures)

pub returns-clause-shape : goal.returns-clause-shape
returns-clause-shape c =
    let p = c.parts.result.0.now in
    let fill = c.parts.result.1.now in
    let start = c.args.start in
    let end = c.args.end in
    let made = decided-if_ok (slice_refusal (column_of (sparse_of p fill)) start end) (λ out. out ≡ sliced_tree p fill start end) c.slice.result c.slice.ensures in
    if_ok-more (λ out. out ≡ sliced_tree p fill start end) (λ out. (q : PlainPatches) (other : PlainScalar) → c.args.self.now ≡ sparse_of q other → out ≡ sliced_tree q other start end) c.slice.result
    (λ out e q other h. let same = sparse_of-alike p q fill other (sym c.parts.ensures.tree ∙ h) in e ∙ (λ i. sliced_tree (same.0 i) (same.1 i) start end)) made
