-- One of two integers, picked by a mask.
use Rattle.std.proofs.Common.{◌≡◌, ◌∙◌, ℕ, ℤ, Bool, true, false, cond, sym, ap}
use Rattle.std.specs.Prelude.{◌<◌, ◌-◌, ◌%◌, ◌^◌, ◌+◌, bit_and, bit_xor}
use mir.Val.{bool_byte}
use Rattle.std.specs.Int.Bits.{xor_assoc, xor_self, xor_zero_r, and_zero_r}
use Rattle.std.proofs.lemmas.Nat.{and_mask, xor_mod}
use Rattle.std.proofs.Math.Nat.{mod-eq_of_lt}
use Rattle.vx_base.specs.declared.ptype.PType.{PType}
use Rattle.vx_base.specs.Integers.{bits_of, bits_in, lies_in}
use Rattle.vx_base.specs.Wrapping.{from_bits}
use Rattle.vx_base.proofs.WrapLemmas.{wrap-same, low_bits-lt}
use Rattle.vx_base.proofs.WrapBitsLemmas.{low_bits-bits}

-- no bit or each bit
abbrev mask : Bool → ℕ
mask bit = (0 + (2 ^ 64 - bool_byte bit)) % 2 ^ 64

picked-other : (a b : ℕ) → bit_xor a (bit_and (bit_xor a b) 0) ≡ a
picked-other a b = ap (bit_xor a) (and_zero_r (bit_xor a b)) ∙ xor_zero_r a

picked-item : (a b : ℕ) → a < 2 ^ 64 → b < 2 ^ 64 → bit_xor a (bit_and (bit_xor a b) (2 ^ 64 - 1)) ≡ b
picked-item a b h k =
    let whole : bit_xor a b % 2 ^ 64 ≡ bit_xor a b = xor_mod a b 64 ∙ (λ i. bit_xor (mod-eq_of_lt h i) (mod-eq_of_lt k i)) in
    ap (bit_xor a) (and_mask (bit_xor a b) 64 ∙ whole) ∙ sym (xor_assoc a a b) ∙ ap (λ n. bit_xor n b) (xor_self a)

picked-bits : (bit : Bool) (a b : ℕ) → a < 2 ^ 64 → b < 2 ^ 64 → bit_xor a (bit_and (bit_xor a b) (mask bit)) ≡ cond bit b a
picked-bits true a b h k = picked-item a b h k
picked-bits false a b h k = picked-other a b

-- an integer has its bits
from_bits-bits : (p : PType) (z : ℤ) → lies_in p z ≡ true → from_bits p (bits_in p z % 2 ^ bits_of p) ≡ z
from_bits-bits p z held =
    let same = low_bits-bits p z held in
    ap (from_bits p) (ap (λ n. n % 2 ^ bits_of p) (sym same) ∙ mod-eq_of_lt (low_bits-lt p z)) ∙ wrap-same p z held

pub picked : (p : PType) (bit : Bool) (item other : ℤ) (a b : ℕ) → a ≡ bits_in p other → b ≡ bits_in p item → a < 2 ^ 64 → b < 2 ^ 64 → lies_in p item ≡ true → lies_in p other ≡ true
    → from_bits p (bit_xor a (bit_and (bit_xor a b) (mask bit)) % 2 ^ bits_of p) ≡ cond bit item other
picked p true item other a b is_other is_item h k held_item held_other = ap (λ n. from_bits p (n % 2 ^ bits_of p)) (picked-bits true a b h k ∙ is_item) ∙ from_bits-bits p item held_item
picked p false item other a b is_other is_item h k held_item held_other = ap (λ n. from_bits p (n % 2 ^ bits_of p)) (picked-bits false a b h k ∙ is_other) ∙ from_bits-bits p other held_other
