use Rattle.std.proofs.Common.{◌≡◌, ◌∙◌, ◌+◌, ◌*◌, length, ap, arith, true}
use Rattle.std.specs.Prelude.{sum_by}
use Rattle.vx_model.specs.Rows.{rows}
use Rattle.vx_model.specs.TreeType.{tree_type}
use Rattle.vx_model.proofs.MadeLemmas.{rows_fit}
use Rattle.vx_sparse.specs.Kernels.{is_summable, unpatched}
use Rattle.vx_sparse.specs.SumParts.{downs, ups}
use Rattle.vx_sparse.proofs.SumParts.{downs-few, parts-below, sum-fits, total-sparse, ups-few}
use Rattle.vx_sparse.proofs.kernels.sums.row_parts.Goals as goal

pub overflow_mul-fill_up : goal.overflow_mul-fill_up
overflow_mul-fill_up c =
    let p = c.args.patches.now in
    let fill = c.args.fill.now in
    let part : c.parts-up.result.0 ≡ ups fill.value = c.parts-up.ensures.up ∙ ap ups c.cell.ensures in
    let small = (parts-below fill.dtype fill.value c.requires.summable c.known-2.ensures).0 in
    let fits = sum-fits (length (rows p.values)) c.from-others.result p.array_len c.parts-up.result.0 0 (omega (arith, c.from-others.ensures, c.unpatched.ensures.all)) c.unpatched.ensures.few (omega (arith, part, small)) (omega arith) in
    omega (arith, fits)

pub overflow_mul-fill_down : goal.overflow_mul-fill_down
overflow_mul-fill_down c =
    let p = c.args.patches.now in
    let fill = c.args.fill.now in
    let part : c.parts-up.result.1 ≡ downs fill.value = c.parts-up.ensures.down ∙ ap downs c.cell.ensures in
    let small = (parts-below fill.dtype fill.value c.requires.summable c.known-2.ensures).1 in
    let fits = sum-fits (length (rows p.values)) c.from-others.result p.array_len c.parts-up.result.1 0 (omega (arith, c.from-others.ensures, c.unpatched.ensures.all)) c.unpatched.ensures.few (omega (arith, part, small)) (omega arith) in
    omega (arith, fits)

pub overflow_add-whole_up : goal.overflow_add-whole_up
overflow_add-whole_up c =
    let p = c.args.patches.now in
    let fill = c.args.fill.now in
    let part : c.parts-up.result.0 ≡ ups fill.value = c.parts-up.ensures.up ∙ ap ups c.cell.ensures in
    let small = (parts-below fill.dtype fill.value c.requires.summable c.known-2.ensures).0 in
    let own : is_summable (tree_type p.values) ≡ true = ap is_summable c.requires.typed ∙ c.requires.summable in
    let few = ups-few (tree_type p.values) own (rows p.values) (rows_fit p.values c.known.ensures.1) in
    let so_far : c.tree_parts-patched_up.result.0 ≡ sum_by ups (rows p.values) = c.tree_parts-patched_up.ensures.up ∙ ap (λ t. sum_by ups (rows t)) c.values.ensures in
    let fits = sum-fits (length (rows p.values)) c.from-others.result p.array_len c.parts-up.result.0 c.tree_parts-patched_up.result.0 (omega (arith, c.from-others.ensures, c.unpatched.ensures.all)) c.unpatched.ensures.few (omega (arith, part, small)) (omega (arith, so_far, few)) in
    omega (arith, fits)

pub overflow_add-whole_down : goal.overflow_add-whole_down
overflow_add-whole_down c =
    let p = c.args.patches.now in
    let fill = c.args.fill.now in
    let part : c.parts-up.result.1 ≡ downs fill.value = c.parts-up.ensures.down ∙ ap downs c.cell.ensures in
    let small = (parts-below fill.dtype fill.value c.requires.summable c.known-2.ensures).1 in
    let own : is_summable (tree_type p.values) ≡ true = ap is_summable c.requires.typed ∙ c.requires.summable in
    let few = downs-few (tree_type p.values) own (rows p.values) (rows_fit p.values c.known.ensures.1) in
    let so_far : c.tree_parts-patched_up.result.1 ≡ sum_by downs (rows p.values) = c.tree_parts-patched_up.ensures.down ∙ ap (λ t. sum_by downs (rows t)) c.values.ensures in
    let fits = sum-fits (length (rows p.values)) c.from-others.result p.array_len c.parts-up.result.1 c.tree_parts-patched_up.result.1 (omega (arith, c.from-others.ensures, c.unpatched.ensures.all)) c.unpatched.ensures.few (omega (arith, part, small)) (omega (arith, so_far, few)) in
    omega (arith, fits)

pub returns : goal.returns
returns c =
    let p = c.args.patches.now in
    let fill = c.args.fill.now in
    let others : c.from-others.result ≡ unpatched p = c.from-others.ensures ∙ c.unpatched.ensures.rows in
    let patched_up : c.tree_parts-patched_up.result.0 ≡ sum_by ups (rows p.values) = c.tree_parts-patched_up.ensures.up ∙ ap (λ t. sum_by ups (rows t)) c.values.ensures in
    let patched_down : c.tree_parts-patched_up.result.1 ≡ sum_by downs (rows p.values) = c.tree_parts-patched_up.ensures.down ∙ ap (λ t. sum_by downs (rows t)) c.values.ensures in
    let up : c.parts-up.result.0 ≡ ups fill.value = c.parts-up.ensures.up ∙ ap ups c.cell.ensures in
    let down : c.parts-up.result.1 ≡ downs fill.value = c.parts-up.ensures.down ∙ ap downs c.cell.ensures in
    total-sparse p fill _ _ c.known.ensures (λ i. patched_up i + others i * up i) (λ i. patched_down i + others i * down i)
