use Rattle.std.proofs.Common.{◌≡◌, ◌∙◌, sym}
use Rattle.vx_base.specs.declared.error.VortexError.TheVariants.{OutOfBounds}
use Rattle.vx_model.specs.Column.{column_of}
use Rattle.vx_model.specs.Tree.{sparse_of}
use Rattle.vx_rules.specs.Selections.{slice_refusal}
use Rattle.vx_sparse.specs.Slices.{sliced_tree}
use Rattle.vx_sparse.proofs.KernelAnswers.{slice-accepted, slice-refused}
use Rattle.vx_sparse.proofs.KernelTypes.{decides-err, decides-ok}
use Rattle.vx_sparse.proofs.kernels.slices.slice.Goals as goal

pub returns-then-not-has_rows : goal.returns-then-not-has_rows
returns-then-not-has_rows c =
    let p = c.args.patches.now in
    let fill = c.args.fill.now in
    let start = c.args.start in
    let end = c.args.end in
    decides-err (slice_refusal (column_of (sparse_of p fill)) start end) (λ out. out ≡ sliced_tree p fill start end) OutOfBounds (slice-refused p fill start end (sym c.has_rows.ensures ∙ c.if-not-has_rows.true))

pub slice_within-requires-clause-part : goal.slice_within-requires-clause-part
slice_within-requires-clause-part c = sym c.has_rows.ensures ∙ c.if-not-has_rows.false

pub returns : goal.returns
returns c =
    let p = c.args.patches.now in
    let fill = c.args.fill.now in
    let start = c.args.start in
    let end = c.args.end in
    decides-ok (slice_refusal (column_of (sparse_of p fill)) start end) (λ out. out ≡ sliced_tree p fill start end) c.slice_within.result
    (slice-accepted p fill start end (sym c.has_rows.ensures ∙ c.if-not-has_rows.false)) c.slice_within.ensures
