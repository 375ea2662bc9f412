-- Packed differences from a reference.
use Rattle.std.specs.Prelude.{ℕ, ℤ, ◌-ℤ◌, List, length, map, replicate, true, unwrap_or}
use Rattle.vx_base.specs.declared.ptype.PType.{PType}
use Rattle.vx_base.specs.Integers.{bits_in, unsigned_of}
use Rattle.vx_base.specs.Packed.{bytes_in, packed_number, kept_rows, packed_size}
use Rattle.vx_base.specs.Wrapping.{wrap}
use Rattle.vx_model.specs.Tree.{Validity}

-- the bits of each number less the reference, wrapped in the unsigned type of the width
abbrev pub difference_bits : PType → ℤ → List ℤ → List ℕ
difference_bits p reference xs = map (bits_in (unsigned_of p)) (map (λ z. wrap (unsigned_of p) (z -ℤ reference)) xs)

-- the differences packed at a width, in blocks of 1,024 rows; 0 for a null and for a difference that doesn't fit
unfoldable pub packed_differences : PType → ℤ → List ℤ → Validity → ℕ → List ℕ
packed_differences p reference xs valid width =
    bytes_in (packed_size width (length xs)) (packed_number width (kept_rows width (difference_bits p reference xs) (unwrap_or valid (replicate (length xs) true))))
