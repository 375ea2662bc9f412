use Rattle.std.proofs.Common.{◌≡◌, ◌<◌, ◌∙◌, ◌++◌, false, [], ◌∷◌, length, sym, ap, arith}
use Rattle.std.specs.Prelude.{slice_index_or}
use Rattle.vx_model.specs.Rows.{row_at, rows}
use Rattle.vx_sparse.specs.Filters.{is_kept_index}
use Rattle.vx_sparse.proofs.PatchRows.{map-more}
use Rattle.vx_sparse.proofs.kernels.kept_patches.patch_bits.Goals as goal

pub loop-place-preserved : goal.loop-place-preserved
loop-place-preserved c =
    let is = rows c.args.patches.now.indices in
    let kept = is_kept_index c.args.keep.now c.args.patches.now.offset in
    let place = c.loop-place.place in
    let less : place < length is = omega (arith, c.loop-place-test.true, c.num_patches-place-end.ensures) in
    let own : c.is_set-bit.result ≡ kept (row_at is place) = c.is_set-bit.ensures ∙ ap (λ r. slice_index_or c.args.keep.now r false) c.patch_row-row.ensures.row in
    c.in_ok-push.ensures.items ∙ (λ i. c.loop-place.invariant i ++ own i ∷ []) ∙ sym (map-more kept is place less)
