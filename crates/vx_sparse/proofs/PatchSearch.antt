-- The binary search for the first patch whose index isn't below a bound.
use Rattle.std.proofs.Common.{◌≡◌, ◌<◌, ◌≤◌, ℕ, List, length, true, refl, ap, arith, Option, None, Some}
use Rattle.std.specs.Prelude.{unwrap_or}
use Rattle.vx_base.specs.PlainValue.{PlainValue}
use Rattle.vx_model.specs.Rows.{row_at, index_of, offset_at}
use Rattle.vx_model.specs.WellFormed.{ascend, indices_below}
use Rattle.vx_model.proofs.PatchLemmas.{ascend-index}
use Rattle.vx_array.proofs.ChunkCounts.{counts-below, counts-behind}

module _ (low high bound : ℕ) (is : List PlainValue) (rising : ascend low high is ≡ true) (i : ℕ) (within : i < length is) where
  -- an index below the bound is among those that are counted
  pub sought-below : offset_at is i < bound → i < indices_below bound is
  sought-below less = by (index_of (row_at is i)) refl
    where
      by : (o : Option ℕ) → index_of (row_at is i) ≡ o → i < indices_below bound is
      by None e = absurd (ascend-index low high is i rising within e)
      by (Some k) e = let own : offset_at is i ≡ k = ap (λ o. unwrap_or o 0) e in counts-below low high bound is rising i k e (omega arith)

  -- and one that isn't below it isn't
  pub sought-behind : bound ≤ offset_at is i → indices_below bound is ≤ i
  sought-behind more = by (index_of (row_at is i)) refl
    where
      by : (o : Option ℕ) → index_of (row_at is i) ≡ o → indices_below bound is ≤ i
      by None e = absurd (ascend-index low high is i rising within e)
      by (Some k) e = let own : offset_at is i ≡ k = ap (λ o. unwrap_or o 0) e in counts-behind low high bound is rising i k e (omega arith)
