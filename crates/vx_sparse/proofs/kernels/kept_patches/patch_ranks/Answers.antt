use Rattle.std.proofs.Common.{◌≡◌, ◌<◌, ◌≤◌, ◌∙◌, ◌+◌, ◌-◌, ◌++◌, [], ◌∷◌, length, sym, ap, arith}
use Rattle.vx_base.specs.Masks.{rank}
use Rattle.vx_model.specs.Rows.{offset_at, row_at, rows}
use Rattle.vx_sparse.specs.Filters.{kept_rank}
use Rattle.vx_sparse.proofs.PatchRows.{index-rises, map-more}
use Rattle.vx_sparse.proofs.kernels.kept_patches.patch_ranks.Goals as goal

pub loop-place-preserved : goal.loop-place-preserved
loop-place-preserved c =
    let p = c.args.patches.now in
    let is = rows p.indices in
    let ranked = kept_rank c.args.keep.now p.offset in
    let place = c.loop-place.place in
    let less : place < length is = omega (arith, c.loop-place-test.true, c.num_patches-place-end.ensures) in
    let own : c.rank_from-count.result ≡ ranked (row_at is place) = c.rank_from-count.ensures ∙ ap (rank c.args.keep.now) c.patch_row-row.ensures.row in
    let here : c.patch_row-row.result ≡ offset_at is place - p.offset = c.patch_row-row.ensures.row in
    record {
      ranks = c.in_ok-push.ensures.items ∙ (λ i. c.loop-place.invariant.ranks i ++ own i ∷ []) ∙ sym (map-more ranked is place less);
      count = c.rank_from-count.ensures;
      order = λ more.
          let next = index-rises p.offset (p.offset + p.array_len) is place c.known.ensures.2.ascending more in
          let above : c.patch_row-row.result ≤ offset_at is (place + 1) - p.offset = omega (arith, here, next) in
          above;
    }
