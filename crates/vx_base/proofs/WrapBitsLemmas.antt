-- Wrapping sums and differences, from the low bits of those of 64-bit words.
use Rattle.std.proofs.Common.{◌≡◌, ◌<◌, ◌+◌, ◌-◌, ◌*◌, ◌/◌, ◌%◌, ◌^◌, ◌∙◌, ◌≤◌, ℕ, ℤ, pos, negsuc, true, refl, sym, ap, subst, arith}
use Rattle.std.specs.Prelude.{◌+ℤ◌, ◌-ℤ◌, unsigned_abs}
use Rattle.std.specs.Int.{int_rem_euclid}
use Rattle.std.proofs.lemmas.Int.{ints}
use Rattle.std.proofs.lemmas.Nat.{pow_pos, div_below}
use Rattle.std.proofs.lemmas.Bool.{ltb-true, and_parts}
use Rattle.std.proofs.Math.Nat.{add-mod, mod-eq_of_lt, div-add-mod, mul-add-mod_self_left, mul-le-mul_left}
use Rattle.vx_base.specs.declared.ptype.PType.{PType}
use Rattle.vx_base.specs.declared.ptype.PType.TheVariants.{U8, U16, U32, U64, I8, I16, I32, I64}
use Rattle.vx_base.specs.Integers.{bits_of, natural_bits, is_signed, lies_in, bits_in, unsigned_of}
use Rattle.vx_base.specs.Wrapping.{low_bits, from_bits, wrap}
use Rattle.vx_base.proofs.WrapLemmas.{split_of, naturals-le, low_bits-lt}
use Rattle.vx_base.proofs.WrapSumLemmas.{low_bits-add, low_bits-back, low_bits-natural}

below_all : (p : PType) (n : ℕ) → n < 2 ^ natural_bits p → n < 2 ^ bits_of p
below_all p n h = let l = naturals-le (is_signed p) (2 ^ bits_of p) (2 ^ natural_bits p) (split_of p) in omega arith

-- the low bits of a value are its two's complement
pub low_bits-bits : (p : PType) (z : ℤ) → lies_in p z ≡ true → low_bits p z ≡ bits_in p z
low_bits-bits p (pos n) h = mod-eq_of_lt (below_all p n (ltb-true _ _ h))
low_bits-bits p (negsuc n) h = ap (λ k. 2 ^ bits_of p - 1 - k) (mod-eq_of_lt (below_all p n (ltb-true _ _ (and_parts _ _ h).1)))

-- n modulo a, from n modulo a * b
pub mod-of-mod : (y m k : ℕ) → y % (m * k) % m ≡ y % m
mod-of-mod y m k =
    let q = y / (m * k) in
    let r = y % (m * k) in
    let parts : m * (k * q) + r ≡ y = omega (arith, div-add-mod y (m * k)) in
    sym (mul-add-mod_self_left m (k * q) r) ∙ ap (λ x. x % m) parts

-- a word of 64 bits is the type's bits and the bits above them
pub word_of : (p : PType) → 2 ^ 64 ≡ 2 ^ bits_of p * 2 ^ (64 - bits_of p)
word_of U8 = refl
word_of U16 = refl
word_of U32 = refl
word_of U64 = refl
word_of I8 = refl
word_of I16 = refl
word_of I32 = refl
word_of I64 = refl

pub wrap-bits : (p : PType) (reference : ℤ) (n : ℕ) → lies_in p reference ≡ true → from_bits p ((bits_in p reference + n) % 2 ^ 64 % 2 ^ bits_of p) ≡ wrap p (reference +ℤ pos n)
wrap-bits p reference n h =
    let all = 2 ^ bits_of p in
    let bits = bits_in p reference in
    let low : low_bits p reference ≡ bits = low_bits-bits p reference h in
    let small : bits < all = subst (λ x. x < all) low (low_bits-lt p reference) in
    let shorter : (bits + n) % 2 ^ 64 % all ≡ (bits + n) % all = ap (λ w. (bits + n) % w % all) (word_of p) ∙ mod-of-mod (bits + n) all (2 ^ (64 - bits_of p)) in
    let parts : (bits + n) % all ≡ (low_bits p reference + n % all) % all = add-mod bits n all ∙ ap (λ x. (x + n % all) % all) (mod-eq_of_lt small ∙ sym low) in
    ap (from_bits p) (shorter ∙ parts ∙ sym (low_bits-add p reference (pos n)))

pub ruleset wrap_words = (wrap-bits, low_bits-bits)

-- ---- differences

turned : (all k c r x z : ℕ) → all * c + z ≡ r + x → c ≤ k → r ≤ all * k → z + (all * k - r) ≡ all * (k - c) + x
turned all k c r x z e h room = let parts : k ≡ c + (k - c) = omega arith in by_rest (k - c) (ap (λ n. all * n) parts)
  where
    by_rest : (d : ℕ) → all * k ≡ all * (c + d) → z + (all * k - r) ≡ all * d + x
    by_rest d q = omega arith

-- numbers below n that add up to z, wrapped: the one from z, a multiple of n more, and the other
rest_of : (all k r x z : ℕ) → 0 < k → r < all → x < all → (r + x) % all ≡ z → (z + (all * k - r)) % all ≡ x
rest_of all k r x z some small few e =
    let c = (r + x) / all in
    let parts : all * c + z ≡ r + x = omega (arith, div-add-mod (r + x) all, e) in
    let once : c < 2 = div_below (r + x) all 2 (omega arith) (omega arith) in
    let room : all * 1 ≤ all * k = mul-le-mul_left all some in
    rw (turned all k c r x z parts (omega arith) (omega arith)) (mul-add-mod_self_left all (k - c) x ∙ mod-eq_of_lt few)

bits_of-unsigned : (p : PType) → bits_of (unsigned_of p) ≡ bits_of p
bits_of-unsigned U8 = refl
bits_of-unsigned U16 = refl
bits_of-unsigned U32 = refl
bits_of-unsigned U64 = refl
bits_of-unsigned I8 = refl
bits_of-unsigned I16 = refl
bits_of-unsigned I32 = refl
bits_of-unsigned I64 = refl

pub wrap-difference : (p : PType) (reference z : ℤ) → lies_in p reference ≡ true → lies_in p z ≡ true
    → from_bits (unsigned_of p) ((bits_in p z + (2 ^ 64 - bits_in p reference)) % 2 ^ 64 % 2 ^ bits_of (unsigned_of p)) ≡ wrap (unsigned_of p) (z -ℤ reference)
wrap-difference p reference z h l =
    let all = 2 ^ bits_of p in
    let r = bits_in p reference in
    let x = low_bits p (z -ℤ reference) in
    let ref : low_bits p reference ≡ r = low_bits-bits p reference h in
    let small : r < all = subst (λ n. n < all) ref (low_bits-lt p reference) in
    let few : x < all = low_bits-lt p (z -ℤ reference) in
    let same : reference +ℤ (z -ℤ reference) ≡ z = omega (arith, ints) in
    let sum : (r + x) % all ≡ bits_in p z =
    (let a = sym ref in let b = sym (low_bits-natural p x few) in λ i. (a i + b i) % all) ∙ sym (low_bits-add p reference (pos x)) ∙ low_bits-back p reference (z -ℤ reference) ∙ ap (low_bits p) same ∙ low_bits-bits p z l
    in
    let rest : (bits_in p z + (all * 2 ^ (64 - bits_of p) - r)) % all ≡ x = rest_of all (2 ^ (64 - bits_of p)) r x (bits_in p z) (pow_pos (64 - bits_of p)) small few sum in
    let whole : (bits_in p z + (2 ^ 64 - r)) % 2 ^ 64 % all ≡ x = ap (λ w. (bits_in p z + (w - r)) % w % all) (word_of p) ∙ mod-of-mod (bits_in p z + (all * 2 ^ (64 - bits_of p) - r)) all (2 ^ (64 - bits_of p)) ∙ rest in
    subst (λ b. from_bits (unsigned_of p) ((bits_in p z + (2 ^ 64 - r)) % 2 ^ 64 % 2 ^ b) ≡ from_bits (unsigned_of p) (unsigned_abs (int_rem_euclid (z -ℤ reference) (pos (2 ^ b))))) (sym (bits_of-unsigned p)) (ap (from_bits (unsigned_of p)) whole)

pub ruleset wrap_differences = (wrap-difference)
