-- Sums of products that wrap at 64 signed bits.
use Rattle.std.proofs.Common.{◌≡◌, ◌∙◌, ◌<◌, ◌+◌, ◌*◌, ◌%◌, ◌^◌, ℤ, pos, negsuc, true, refl, sym, ap, arith, to_z, of_z}
use Rattle.std.specs.Int.{w64, int_wrap, cast_signed}
use Rattle.std.specs.Prelude.{◌+ℤ◌, ◌*ℤ◌, FitsSigned}
use Rattle.std.proofs.lemmas.Int.{to_z-of_z, of_z-to_z, wrapping_mul-bits, int_wrap-mul_left}
use Rattle.std.proofs.lemmas.Nat.{mod_below, pow_pos}
use Rattle.vx_base.specs.declared.ptype.PType.{PType}
use Rattle.vx_base.specs.declared.ptype.PType.TheVariants.{I64}
use Rattle.vx_base.specs.Integers.{bits_in, bits_of, lies_in}
use Rattle.vx_base.specs.Wrapping.{from_bits, low_bits, wrap}
use Rattle.vx_base.proofs.WrapLemmas.{low_bits-lt}
use Rattle.vx_base.proofs.WrapSumLemmas.{low_bits-back}
use Rattle.vx_base.proofs.WrapBitsLemmas.{wrap-bits}

-- wrapping, by std's word
signed-low_bits : (z : ℤ) → cast_signed w64 (low_bits I64 z) ≡ int_wrap w64 z
unfolding int_wrap
signed-low_bits z = refl

bits-lt : (z : ℤ) → FitsSigned w64 z → of_z w64 z < 2 ^ 64
bits-lt (pos n) h = omega (arith, h.sfits)
bits-lt (negsuc n) h = omega arith

low_bits-product : (a b : ℤ) → FitsSigned w64 b → low_bits I64 (a *ℤ b) ≡ low_bits I64 a * of_z w64 b % 2 ^ 64
low_bits-product a b h =
    let m = low_bits I64 a in
    let n = of_z w64 b in
    let signed : to_z w64 (m * n % 2 ^ 64) ≡ to_z w64 (low_bits I64 (a *ℤ b)) =
    wrapping_mul-bits w64 m n (low_bits-lt I64 a) (bits-lt b h) ∙ (let x = signed-low_bits a in let y = to_z-of_z w64 b h in λ i. int_wrap w64 (x i *ℤ y i)) ∙ int_wrap-mul_left w64 a b ∙ sym (signed-low_bits (a *ℤ b))
    in
    sym (of_z-to_z w64 (low_bits I64 (a *ℤ b)) (low_bits-lt I64 (a *ℤ b))) ∙ ap (of_z w64) (sym signed) ∙ of_z-to_z w64 (m * n % 2 ^ 64) (mod_below (m * n) (2 ^ 64) (pow_pos 64))

-- a sum plus a product, by their bits, in a type that is I64
pub plus-product : (p : PType) (sum whole factor : ℤ) → p ≡ I64 → lies_in p sum ≡ true → FitsSigned w64 factor
    → from_bits p ((bits_in p sum + low_bits I64 whole * of_z w64 factor % 2 ^ 64) % 2 ^ 64 % 2 ^ bits_of p) ≡ wrap I64 (sum +ℤ whole *ℤ factor)
plus-product p sum whole factor is held fits =
    let n = low_bits I64 whole * of_z w64 factor % 2 ^ 64 in
    wrap-bits p sum n held ∙ ap (λ q. wrap q (sum +ℤ pos n)) is ∙ ap (λ k. wrap I64 (sum +ℤ pos k)) (sym (low_bits-product whole factor fits)) ∙ ap (from_bits I64) (low_bits-back I64 sum (whole *ℤ factor))
