use Rattle.std.proofs.Common.{◌≡◌, ◌<◌, ◌≤◌, length, map, take}
use Rattle.vx_base.specs.Masks.{rank}
use Rattle.vx_model.specs.Rows.{row_at, rows}
use Rattle.vx_sparse.specs.Filters.{kept_rank, patched_row}
use Rattle.vx_sparse.proofs.kernels.kept_patches.patch_ranks.Given as goal

abbrev pub invariant-loop-place : goal.invariant-loop-place
invariant-loop-place l = record {
  ranks : l.ranks.items ≡ map (kept_rank l.keep l.patches.offset) (take l.place (rows l.patches.indices));
  count : l.count ≡ rank l.keep l.from;
  order : l.place < length (rows l.patches.indices) → l.from ≤ patched_row l.patches.offset (row_at (rows l.patches.indices) l.place);
}
