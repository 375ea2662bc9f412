-- Histograms of rows by their number of binary digits.
use Rattle.std.specs.Prelude.{ℕ, ◌==◌, ◌≡◌, ◌+◌, ◌-◌, ◌<◌, ◌≤◌, List, length, slice_index, take, count_by, sum}
use Rattle.vx_base.specs.Digits.{digits}

-- entry w is the number of rows of exactly w digits, for w from 0 to the width
pub record IsHistogram (width : ℕ) (rows counts : List ℕ) : Type 0 where
  pub size : length counts ≡ width + 1
  pub each : (w : ℕ) → w < width + 1 → slice_index counts w ≡ count_by (λ row. digits row == w) rows
  pub total : sum counts ≡ length rows

-- entry 64 - w is the number of rows of exactly w digits: the code counts by leading zeros of 64 bits. No row has more digits
-- than the width; rows of 0 digits may be left out, since nulls aren't counted.
pub record AreByZeros (width : ℕ) (rows counts : List ℕ) : Type 0 where
  pub each : (w : ℕ) → 0 < w → w < 65 → slice_index counts (64 - w) ≡ count_by (λ row. digits row == w) rows
  pub left_out : slice_index counts 64 + length rows ≡ count_by (λ row. digits row == 0) rows + sum counts
  pub within : sum (take (64 - width) counts) ≡ 0
  pub most : sum counts ≤ length rows
