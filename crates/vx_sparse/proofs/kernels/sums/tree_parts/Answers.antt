use Rattle.std.proofs.Common.{◌≡◌, ◌<◌, ◌∙◌, length, ap, arith}
use Rattle.std.proofs.lemmas.List.Sums.{sum_by_more_le}
use Rattle.vx_base.specs.PlainValue.{null}
use Rattle.vx_model.specs.Rows.{rows, row_at}
use Rattle.vx_model.specs.TreeType.{tree_type}
use Rattle.vx_model.proofs.MadeLemmas.{rows_fit}
use Rattle.vx_sparse.specs.SumParts.{downs, ups}
use Rattle.vx_sparse.proofs.SumParts.{downs-few, ups-few}
use Rattle.vx_sparse.proofs.kernels.sums.tree_parts.Goals as goal

pub overflow_add-up : goal.overflow_add-up
overflow_add-up c =
    let t = c.args.tree.now in
    let row = c.loop-row.row in
    let within : row < length (rows t) = omega (arith, c.loop-row-test.true, c.len-row-end.ensures) in
    let part : c.parts-more_up.result.0 ≡ ups (row_at (rows t) row) = c.parts-more_up.ensures.up ∙ ap ups c.cell_at.ensures in
    let few = ups-few (tree_type t) c.requires (rows t) (rows_fit t c.known.ensures) in
    let more = sum_by_more_le ups (rows t) row null within in
    omega (arith, part, few, more, c.loop-row.invariant.up, c.counted.ensures)

pub overflow_add-down : goal.overflow_add-down
overflow_add-down c =
    let t = c.args.tree.now in
    let row = c.loop-row.row in
    let within : row < length (rows t) = omega (arith, c.loop-row-test.true, c.len-row-end.ensures) in
    let part : c.parts-more_up.result.1 ≡ downs (row_at (rows t) row) = c.parts-more_up.ensures.down ∙ ap downs c.cell_at.ensures in
    let few = downs-few (tree_type t) c.requires (rows t) (rows_fit t c.known.ensures) in
    let more = sum_by_more_le downs (rows t) row null within in
    omega (arith, part, few, more, c.loop-row.invariant.down, c.counted.ensures)
