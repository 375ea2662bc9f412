-- Rows that are packed unchanged: valid, with bits that fit the width.
use Rattle.std.specs.Prelude.{ℕ, ◌≡◌, ◌≤◌, ◌<◌, Bool, List, slice_index}
use Rattle.vx_base.specs.Packed.{kept_rows}

-- each of the rows `start` to `end - 1` is packed unchanged
pub record AreKept (width : ℕ) (bits : List ℕ) (valid : List Bool) (start end : ℕ) : Type 0 where
  pub each : (k : ℕ) → start ≤ k → k < end → slice_index (kept_rows width bits valid) k ≡ slice_index bits k
