use Rattle.std.proofs.Common.{◌≡◌, ◌<◌, ◌∙◌, ◌+◌, ◌-◌, ap, arith}
use Rattle.vx_model.specs.Rows.{offset_at, rows}
use Rattle.vx_sparse.proofs.PatchRows.{index-within}
use Rattle.vx_sparse.proofs.kernels.kept_patches.patch_row.Goals as goal

pub overflow_sub-row : goal.overflow_sub-row
overflow_sub-row c =
    let p = c.args.patches.now in
    let at : c.index_at-index.result ≡ offset_at (rows p.indices) c.args.place = c.index_at-index.ensures ∙ ap (λ t. offset_at (rows t) c.args.place) c.indices.ensures in
    let held = index-within p.offset (p.offset + p.array_len) (rows p.indices) c.known.ensures.2.ascending c.args.place c.requires in
    omega (arith, at, held.0, c.offset.ensures, c.from.ensures)

pub overflow_cast-result : goal.overflow_cast-result
overflow_cast-result c =
    let p = c.args.patches.now in
    let at : c.index_at-index.result ≡ offset_at (rows p.indices) c.args.place = c.index_at-index.ensures ∙ ap (λ t. offset_at (rows t) c.args.place) c.indices.ensures in
    let held = index-within p.offset (p.offset + p.array_len) (rows p.indices) c.known.ensures.2.ascending c.args.place c.requires in
    let small : c.index_at-index.result - c.from.result < p.array_len = omega (arith, at, held.0, held.1, c.offset.ensures, c.from.ensures) in
    omega (arith, small, c.counted.ensures)

pub returns-clause-below : goal.returns-clause-below
returns-clause-below c =
    let p = c.args.patches.now in
    let at : c.index_at-index.result ≡ offset_at (rows p.indices) c.args.place = c.index_at-index.ensures ∙ ap (λ t. offset_at (rows t) c.args.place) c.indices.ensures in
    let held = index-within p.offset (p.offset + p.array_len) (rows p.indices) c.known.ensures.2.ascending c.args.place c.requires in
    omega (arith, at, held.0, held.1, c.offset.ensures, c.from.ensures)
