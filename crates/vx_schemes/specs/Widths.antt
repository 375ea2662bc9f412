-- The histogram of the bit widths of a column of integers, and the width of least cost. The rows are given as whole
-- numbers, 0 beneath nulls, and a validity bitmap.
use Rattle.std.specs.Prelude.{ℕ, ◌+◌, ◌==◌, nat_le, ℤ, Bool, List, map, count_by}
use Rattle.std.specs.List.{list_all, range_with_len, position_or_len}
use Rattle.vx_base.specs.declared.ptype.PType.{PType}
use Rattle.vx_base.specs.Digits.{digits}
use Rattle.vx_base.specs.Integers.{bits_of, bytes_of, bits_in}
use Rattle.vx_base.specs.Packed.{kept_rows}
use Rattle.vx_blocks.specs.Cost.{cost}

-- for each width from 0 to the type's bits, the number of rows of exactly that many binary digits; a null has 0
unfoldable pub widths_of : PType → List ℤ → List Bool → List ℕ
widths_of p xs valid = map (λ w. count_by (λ row. digits row == w) (kept_rows 64 (map (bits_in p) xs) valid)) (range_with_len 0 (bits_of p + 1))

-- the first number from 0 to n where f is least
unfoldable pub first_least : (ℕ → ℕ) → ℕ → ℕ
first_least f n = position_or_len (λ w. list_all (λ v. nat_le (f w) (f v)) (range_with_len 0 (n + 1))) (range_with_len 0 (n + 1))

-- the first width of least cost, up to the type's bits
abbrev pub best_width_of : PType → List ℤ → List Bool → ℕ
best_width_of p xs valid = first_least (cost (widths_of p xs valid) (bytes_of p)) (bits_of p)
