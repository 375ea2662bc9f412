-- The filled rows of a slice and their deltas, by its items.
use Rattle.std.proofs.Common.{◌≡◌, ◌≢◌, ℕ, ◌-◌, ◌%◌, ◌<◌, ℤ, pos, ◌-ℤ◌, Bool, true, false, cond, List, length, map, get_or, arith}
use Rattle.vx_base.specs.declared.ptype.PType.{PType}
use Rattle.vx_base.specs.Wrapping.{wrap}
use Rattle.vx_blocks.specs.Deltas.{filled, delta}
use Rattle.vx_blocks.specs.Optional.{optional_rows}
use Rattle.vx_blocks.proofs.DeltaRows.{length-filled_after, before, filled-item, filled-from, filled-valid, delta-from}
use Rattle.vx_blocks.proofs.OptionalRows.{rows-length, rows-at}

module _ {X : Type 0} (g : X → ℤ) (xs : List X) (valid : List Bool) (same : length valid ≡ length xs) (i : ℕ) (x : X) (within : i < length xs) (at : x ≡ get_or xs i x) where
  abbrev column : List ℤ
  column = filled (optional_rows (map g xs) valid)

  room : i < length (optional_rows (map g xs) valid)
  room = omega (arith, rows-length g xs valid same)

  pub row-valid : get_or valid i false ≡ true → g x ≡ get_or column i (pos 0)
  row-valid all = filled-valid (optional_rows (map g xs) valid) i (get_or valid i false) (g x) room all (rows-at g xs valid same i x within at)

  -- an item, and the last row before it
  pub row-after : (last item : ℤ) → last ≡ before (pos 0) column i → item ≡ cond (get_or valid i false) (g x) last → item ≡ get_or column i (pos 0)
  row-after last item so_far made = filled-item (optional_rows (map g xs) valid) i (get_or valid i false) (g x) last item room (rows-at g xs valid same i x within at) so_far made

  -- the first row of a block, whose delta is from itself
  module _ (last item : ℤ) (first : i % 1024 ≡ 0 → last ≡ get_or column i (pos 0)) (other : i % 1024 ≢ 0 → last ≡ get_or column (i - 1) (pos 0)) where
    pub row-from : item ≡ cond (get_or valid i false) (g x) last → item ≡ get_or column i (pos 0)
    row-from made = filled-from (optional_rows (map g xs) valid) i (get_or valid i false) (g x) last item room (rows-at g xs valid same i x within at) first other made

    pub delta-at : (kind : PType) (change : ℤ) → item ≡ get_or column i (pos 0) → change ≡ wrap kind (item -ℤ last) → change ≡ delta kind column i
    delta-at kind change is e = delta-from kind column i item last change (omega (arith, room, length-filled_after (pos 0) (optional_rows (map g xs) valid))) first other is e
