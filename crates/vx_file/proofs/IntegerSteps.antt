-- The bits of an integer type.
use Rattle.std.proofs.Common.{◌≡◌, ◌<◌, ◌%◌, ◌^◌, ℕ, refl}
use Rattle.std.proofs.Math.Nat.{mod-eq_of_lt}
use Rattle.vx_base.specs.declared.ptype.PType.{PType}
use Rattle.vx_base.specs.Integers.{bits_of}
use Rattle.vx_base.specs.Wrapping.{from_bits}

-- the low bits of what fits the bits of a type are all of them
pub low_word : (p : PType) (n : ℕ) → n < 2 ^ bits_of p → from_bits p (n % 2 ^ bits_of p) ≡ from_bits p n
low_word p n h = rw (mod-eq_of_lt h) refl
