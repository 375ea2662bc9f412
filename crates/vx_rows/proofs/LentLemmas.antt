-- Rows by their items and validity: their number, and one of them.
use Rattle.std.proofs.Common.{◌≡◌, ◌<◌, ℕ, ℤ, pos, Bool, true, false, cond, List, [], map, length, arith}
use Rattle.std.specs.Prelude.{slice_index_or}
use Rattle.vx_base.specs.PlainValue.{truth, int, bytes, null}
use Rattle.vx_model.specs.Refusals.{validity_length}
use Rattle.vx_model.specs.Rows.{is_valid_at, row_at, valid_rows}
use Rattle.vx_model.specs.Tree.{Validity}
use Rattle.vx_model.proofs.RowLemmas.{row_at-replicate}
use Rattle.vx_values.proofs.Cells.{length-flat_rows, row_at-flat_rows}

pub length-bits : (bs : List Bool) (valid : Validity) → validity_length valid (length bs) ≡ true → length (valid_rows valid (map truth bs)) ≡ length bs
length-bits bs valid h = length-flat_rows truth bs valid h

pub length-ints : (zs : List ℤ) (valid : Validity) → validity_length valid (length zs) ≡ true → length (valid_rows valid (map int zs)) ≡ length zs
length-ints zs valid h = length-flat_rows int zs valid h

pub length-bytes : (bss : List (List ℕ)) (valid : Validity) → validity_length valid (length bss) ≡ true → length (valid_rows valid (map bytes bss)) ≡ length bss
length-bytes bss valid h = length-flat_rows bytes bss valid h

pub row_at-bits : (bs : List Bool) (valid : Validity) (i : ℕ) → validity_length valid (length bs) ≡ true → i < length (valid_rows valid (map truth bs))
    → row_at (valid_rows valid (map truth bs)) i ≡ cond (is_valid_at valid i) (truth (slice_index_or bs i false)) null
row_at-bits bs valid i h k = row_at-flat_rows truth bs valid i false h (omega (arith, length-bits bs valid h))

pub row_at-ints : (zs : List ℤ) (valid : Validity) (i : ℕ) → validity_length valid (length zs) ≡ true → i < length (valid_rows valid (map int zs))
    → row_at (valid_rows valid (map int zs)) i ≡ cond (is_valid_at valid i) (int (slice_index_or zs i (pos 0))) null
row_at-ints zs valid i h k = row_at-flat_rows int zs valid i (pos 0) h (omega (arith, length-ints zs valid h))

pub row_at-bytes : (bss : List (List ℕ)) (valid : Validity) (i : ℕ) → validity_length valid (length bss) ≡ true → i < length (valid_rows valid (map bytes bss))
    → row_at (valid_rows valid (map bytes bss)) i ≡ cond (is_valid_at valid i) (bytes (slice_index_or bss i [])) null
row_at-bytes bss valid i h k = row_at-flat_rows bytes bss valid i [] h (omega (arith, length-bytes bss valid h))

pub ruleset lengths = (length-bits, length-ints, length-bytes)

pub ruleset cells = (row_at-bits, row_at-ints, row_at-bytes, row_at-replicate, length-bits, length-ints, length-bytes)
