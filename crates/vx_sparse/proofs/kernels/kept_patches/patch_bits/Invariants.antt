use Rattle.std.proofs.Common.{◌≡◌, map, take}
use Rattle.vx_model.specs.Rows.{rows}
use Rattle.vx_sparse.specs.Filters.{is_kept_index}
use Rattle.vx_sparse.proofs.kernels.kept_patches.patch_bits.Given as goal

abbrev pub invariant-loop-place : goal.invariant-loop-place
invariant-loop-place l = l.bits.items ≡ map (is_kept_index l.keep l.patches.offset) (take l.place (rows l.patches.indices))
