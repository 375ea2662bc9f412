-- Wrapping arithmetic: whole numbers modulo 2^bits, as values of an integer type.
use Rattle.std.specs.Prelude.{ℕ, suc, ◌-◌, ◌^◌, nat_lt, ℤ, pos, negsuc, unsigned_abs, if◌then◌else◌}
use Rattle.std.specs.Int.{int_rem_euclid}
use Rattle.vx_base.specs.declared.ptype.PType.{PType}
use Rattle.vx_base.specs.Integers.{bits_of, natural_bits}

-- a whole number modulo 2^bits
abbrev pub low_bits : PType → ℤ → ℕ
low_bits p z = unsigned_abs (int_rem_euclid z (pos (2 ^ bits_of p)))

-- the value of a type whose two's complement is n
abbrev pub from_bits : PType → ℕ → ℤ
from_bits p n = if nat_lt n (2 ^ natural_bits p) then pos n else negsuc (2 ^ bits_of p - suc n)

-- the value of a type that is congruent to a whole number modulo 2^bits
abbrev pub wrap : PType → ℤ → ℤ
wrap p z = from_bits p (low_bits p z)
