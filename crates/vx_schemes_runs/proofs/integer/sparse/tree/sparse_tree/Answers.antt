use Rattle.std.proofs.Common.{◌≡◌, ◌∙◌, length, ap}
use Rattle.vx_base.proofs.MakesLemmas.{Makes_ok, Makes_err}
use Rattle.vx_base.specs.PlainScalar.{scalar}
use Rattle.vx_sparse_array.specs.Filling.{filling_of}
use Rattle.vx_sparse_array.proofs.FillingLemmas.{patches-fit, filled-admitted}
use Rattle.vx_sparse_array.proofs.MakingLemmas.{patches-admitted}
use Rattle.vx_model.specs.Column.{column_of}
use Rattle.vx_model.specs.Refusals.{patches_refusal, sparse_refusal}
use Rattle.vx_model.specs.Rows.{rows}
use Rattle.vx_model.specs.Tree.{patches, sparse_of}
use Rattle.vx_model.specs.TreeType.{tree_type}
use Rattle.vx_schemes_runs.proofs.Sparse.Tree.{fill-cell}
use Rattle.vx_schemes_runs.proofs.integer.sparse.tree.sparse_tree.Goals as goal

pub of_rising-patches-requires : goal.of_rising-patches-requires
of_rising-patches-requires c =
    let a = c.args in
    let t = a.array.now in
    ap (λ n. patches_refusal (patches n 0 a.indices a.values)) c.len.ensures
    ∙ patches-admitted (length (rows t)) 0 a.indices a.values (patches-fit (filling_of a.fill) (column_of t) a.indices a.values c.requires.patches)

pub returns-in-Ok : goal.returns-in-Ok
returns-in-Ok c =
    let a = c.args in
    let t = a.array.now in
    let fill : c.in_ok-fill.fill ≡ scalar (tree_type t) (filling_of a.fill).fill = c.in_ok-fill.ensures ∙ (λ i. scalar (c.dtype.ensures i) (fill-cell a.fill i)) in
    let own = c.of_rising-patches.ensures ∙ ap (λ n. patches n 0 a.indices a.values) c.len.ensures in
    Makes_ok _ _ _ _ c.in-Ok.ensures ∙ (λ i. sparse_of (own i) (fill i))

pub returns-in-Err : goal.returns-in-Err
returns-in-Err c =
    let a = c.args in
    let t = a.array.now in
    let fill : c.in_ok-fill.fill ≡ scalar (tree_type t) (filling_of a.fill).fill = c.in_ok-fill.ensures ∙ (λ i. scalar (c.dtype.ensures i) (fill-cell a.fill i)) in
    let own = c.of_rising-patches.ensures ∙ ap (λ n. patches n 0 a.indices a.values) c.len.ensures in
    Makes_err _ _ _ _ ((λ i. sparse_refusal (own i) (fill i)) ∙ filled-admitted (filling_of a.fill) (column_of t) a.indices a.values c.requires.patches) c.in-Err.ensures
