use Rattle.std.proofs.Common.{◌≡◌, ◌<◌, ◌*◌, ℕ, true}
use Rattle.vx_model.specs.Rows.{rows, block_rows}
use Rattle.vx_array.specs.Linear.{has_place, block_end}
use Rattle.vx_array.proofs.node.rle_rows.linear_have_places.Given as goal

abbrev pub invariant-loop-block : goal.invariant-loop-block
invariant-loop-block l = (b : ℕ) → b < l.block → (has_place l.values (rows l.offsets) (rows l.indices) (block_rows * b) ≡ true) × (has_place l.values (rows l.offsets) (rows l.indices) (block_end l.len b) ≡ true)
