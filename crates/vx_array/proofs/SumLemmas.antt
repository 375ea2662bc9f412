-- Sums of differences, one more at a time.
use Rattle.std.proofs.Common.{◌≡◌, ◌<◌, ◌≤◌, ◌+◌, ◌-◌, ◌*◌, ◌/◌, ℕ, zero, suc, ℤ, pos, List, [], ◌∷◌, length, map, get_or, take, drop, refl, ap, arith}
use Rattle.std.specs.Prelude.{◌+ℤ◌}
use Rattle.std.proofs.lemmas.Int.{ints}
use Rattle.std.proofs.lemmas.List.{length-map}
use Rattle.vx_base.specs.Masks.{rows_between}
use Rattle.vx_base.specs.PlainValue.{PlainValue, whole_or_zero}
use Rattle.vx_base.specs.Undelta.{total}
use Rattle.vx_blocks.proofs.DeltaSums.{total-more}
use Rattle.vx_model.specs.Rows.{row_at, block_rows}
use Rattle.vx_array.specs.Sums.{sum_before}

-- the whole number of a row, among those of all rows
pub whole_row : (vs : List PlainValue) (i : ℕ) → whole_or_zero (row_at vs i) ≡ get_or (map whole_or_zero vs) i (pos 0)
whole_row [] i = refl
whole_row (v ∷ vs) zero = refl
whole_row (v ∷ vs) (suc i) = whole_row vs i

pub sum-start : (base : ℤ) (deltas : List PlainValue) (row start : ℕ) → start ≡ block_rows * (row / block_rows) → base ≡ sum_before base deltas row start
sum-start base deltas row start e =
    let none : start - block_rows * (row / block_rows) ≡ 0 = omega arith in
    let some : total (rows_between (map whole_or_zero deltas) (block_rows * (row / block_rows)) start) ≡ pos 0 =
    ap (λ n. total (take n (drop (block_rows * (row / block_rows)) (map whole_or_zero deltas)))) none
    in
    omega (arith, ints, some)

pub sum-next : (base : ℤ) (deltas : List PlainValue) (row i : ℕ) → block_rows * (row / block_rows) ≤ i → i < length deltas → sum_before base deltas row i +ℤ whole_or_zero (row_at deltas i) ≡ sum_before base deltas row (i + 1)
sum-next base deltas row i l m =
    let more = total-more (map whole_or_zero deltas) (block_rows * (row / block_rows)) i l (omega (arith, length-map deltas whole_or_zero)) in
    let here = whole_row deltas i in
    omega (arith, ints, more, here)
