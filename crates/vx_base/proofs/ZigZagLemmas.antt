-- Zigzag and its inverse, and their ranges.
use Rattle.std.proofs.Common.{◌≡◌, ◌<◌, ◌+◌, ◌-◌, ◌*◌, ◌/◌, ◌%◌, ◌^◌, ◌∙◌, ℕ, ℤ, pos, negsuc, true, false, refl, sym, ap, subst, arith}
use Rattle.std.specs.Prelude.{◌==◌, not, unsigned_abs}
use Rattle.std.proofs.lemmas.Bool.{cond_both, cond-true, cond-false, and_parts, eq-eqb, ne_eqb, lt-ltb, ltb-true}
use Rattle.vx_base.specs.declared.ptype.PType.{PType}
use Rattle.vx_base.specs.declared.ptype.PType.TheVariants.{U8, U16, U32, U64, I8, I16, I32, I64}
use Rattle.vx_base.specs.Integers.{bits_of, natural_bits, is_signed, lies_in, bits_in, signed_of, unsigned_of}
use Rattle.vx_base.specs.Wrapping.{low_bits, from_bits}
use Rattle.vx_base.proofs.WrapLemmas.{wrap-same}
use Rattle.vx_base.specs.ZigZag.{zigzag, unzigzag}

even : (n : ℕ) → (2 * n % 2 ≡ 0) × (2 * n / 2 ≡ n)
even n = (omega arith, omega arith)

odd : (n : ℕ) → ((2 * n + 1) % 2 ≡ 1) × ((2 * n + 1) / 2 ≡ n)
odd n = (omega arith, omega arith)

odd_is_not_even : (n : ℕ) → ((2 * n + 1) % 2 == 0) ≡ false
odd_is_not_even n = ne_eqb ((2 * n + 1) % 2) 0 (λ (e : (2 * n + 1) % 2 ≡ 0). omega (arith, (odd n).0, e))

pub unzigzag-zigzag : (v : ℤ) → unzigzag (zigzag v) ≡ v
unzigzag-zigzag (pos n) = cond-true _ _ _ (eq-eqb _ _ (even n).0) ∙ ap pos (even n).1
unzigzag-zigzag (negsuc n) = cond-false _ _ _ (odd_is_not_even n) ∙ ap negsuc (odd n).1

-- half of a number below 2^bits is in the range of the signed type
pub unzigzag-held : (p : PType) (n : ℕ) → n < 2 ^ bits_of p → lies_in (signed_of p) (unzigzag n) ≡ true
unzigzag-held p n h = cond_both (n % 2 == 0) (pos (n / 2)) (negsuc (n / 2)) (λ z. lies_in (signed_of p) z ≡ true) (λ e. natural p h) (λ e. negative p h)
  where
    natural : (p : PType) → n < 2 ^ bits_of p → lies_in (signed_of p) (pos (n / 2)) ≡ true
    natural U8 h = lt-ltb _ _ (omega arith)
    natural U16 h = lt-ltb _ _ (omega arith)
    natural U32 h = lt-ltb _ _ (omega arith)
    natural U64 h = lt-ltb _ _ (omega arith)
    natural I8 h = lt-ltb _ _ (omega arith)
    natural I16 h = lt-ltb _ _ (omega arith)
    natural I32 h = lt-ltb _ _ (omega arith)
    natural I64 h = lt-ltb _ _ (omega arith)

    negative : (p : PType) → n < 2 ^ bits_of p → lies_in (signed_of p) (negsuc (n / 2)) ≡ true
    negative U8 h = lt-ltb _ _ (omega arith)
    negative U16 h = lt-ltb _ _ (omega arith)
    negative U32 h = lt-ltb _ _ (omega arith)
    negative U64 h = lt-ltb _ _ (omega arith)
    negative I8 h = lt-ltb _ _ (omega arith)
    negative I16 h = lt-ltb _ _ (omega arith)
    negative I32 h = lt-ltb _ _ (omega arith)
    negative I64 h = lt-ltb _ _ (omega arith)

-- the zigzag of a value of a signed type is in the range of the unsigned type of its width
pub zigzag-held : (p : PType) (z : ℤ) → is_signed p ≡ true → lies_in p z ≡ true → lies_in (unsigned_of p) (pos (zigzag z)) ≡ true
zigzag-held I8 (pos n) s h = lt-ltb _ _ (omega (arith, ltb-true _ _ h))
zigzag-held I16 (pos n) s h = lt-ltb _ _ (omega (arith, ltb-true _ _ h))
zigzag-held I32 (pos n) s h = lt-ltb _ _ (omega (arith, ltb-true _ _ h))
zigzag-held I64 (pos n) s h = lt-ltb _ _ (omega (arith, ltb-true _ _ h))
zigzag-held I8 (negsuc n) s h = lt-ltb _ _ (omega (arith, ltb-true _ _ h))
zigzag-held I16 (negsuc n) s h = lt-ltb _ _ (omega (arith, ltb-true _ _ h))
zigzag-held I32 (negsuc n) s h = lt-ltb _ _ (omega (arith, ltb-true _ _ h))
zigzag-held I64 (negsuc n) s h = lt-ltb _ _ (omega (arith, ltb-true _ _ h))
zigzag-held U8 z s h = absurd cc
zigzag-held U16 z s h = absurd cc
zigzag-held U32 z s h = absurd cc
zigzag-held U64 z s h = absurd cc

-- ---- the low bits of a word

low_bits-word : (p : PType) (n : ℕ) → n < 2 ^ natural_bits p → (2 ^ 64 - 1 - n) % 2 ^ bits_of p ≡ low_bits p (negsuc n)
low_bits-word U8 n h = omega arith
low_bits-word U16 n h = omega arith
low_bits-word U32 n h = omega arith
low_bits-word U64 n h = omega arith
low_bits-word I8 n h = omega arith
low_bits-word I16 n h = omega arith
low_bits-word I32 n h = omega arith
low_bits-word I64 n h = omega arith

pub from_bits-word : (p : PType) (z : ℤ) → lies_in p z ≡ true → from_bits p (bits_in I64 z % 2 ^ bits_of p) ≡ z
from_bits-word p (pos n) h = wrap-same p (pos n) h
from_bits-word p (negsuc n) h = ap (from_bits p) (low_bits-word p n (ltb-true _ _ (and_parts _ _ h).1)) ∙ wrap-same p (negsuc n) h

-- a value of an unsigned type from the low bits of a word
pub word_bits : (p : PType) (z : ℤ) → not (is_signed p) ≡ true → lies_in p z ≡ true → (bits_in p z ≡ unsigned_abs z) × (unsigned_abs z < 2 ^ bits_of p)
word_bits U8 (pos n) e h = (refl, ltb-true _ _ h)
word_bits U16 (pos n) e h = (refl, ltb-true _ _ h)
word_bits U32 (pos n) e h = (refl, ltb-true _ _ h)
word_bits U64 (pos n) e h = (refl, ltb-true _ _ h)
word_bits U8 (negsuc n) e h = absurd cc
word_bits U16 (negsuc n) e h = absurd cc
word_bits U32 (negsuc n) e h = absurd cc
word_bits U64 (negsuc n) e h = absurd cc
word_bits I8 z e h = absurd cc
word_bits I16 z e h = absurd cc
word_bits I32 z e h = absurd cc
word_bits I64 z e h = absurd cc

pub from_bits-unzigzag : (p : PType) (z : ℤ) → not (is_signed p) ≡ true → lies_in p z ≡ true → from_bits (signed_of p) (bits_in I64 (unzigzag (bits_in p z)) % 2 ^ bits_of (signed_of p)) ≡ unzigzag (unsigned_abs z)
from_bits-unzigzag p z e h =
    let b = word_bits p z e h in
    ap (λ n. from_bits (signed_of p) (bits_in I64 (unzigzag n) % 2 ^ bits_of (signed_of p))) b.0 ∙ from_bits-word (signed_of p) (unzigzag (unsigned_abs z)) (unzigzag-held p (unsigned_abs z) b.1)

-- the low bits of a zigzag are the zigzag
pub from_bits-zigzag : (p q : PType) (z : ℤ) → q ≡ unsigned_of p → is_signed p ≡ true → lies_in p z ≡ true → from_bits q (zigzag z % 2 ^ bits_of q) ≡ pos (zigzag z)
from_bits-zigzag p q z e s h = subst (λ k. from_bits k (zigzag z % 2 ^ bits_of k) ≡ pos (zigzag z)) (sym e) (wrap-same (unsigned_of p) (pos (zigzag z)) (zigzag-held p z s h))

-- a signed type has at most 64 bits
pub lies_in-wide : (p : PType) (z : ℤ) → is_signed p ≡ true → lies_in p z ≡ true → lies_in I64 z ≡ true
lies_in-wide I8 (pos n) s h = lt-ltb _ _ (omega (arith, ltb-true _ _ h))
lies_in-wide I16 (pos n) s h = lt-ltb _ _ (omega (arith, ltb-true _ _ h))
lies_in-wide I32 (pos n) s h = lt-ltb _ _ (omega (arith, ltb-true _ _ h))
lies_in-wide I8 (negsuc n) s h = lt-ltb _ _ (omega (arith, ltb-true _ _ h))
lies_in-wide I16 (negsuc n) s h = lt-ltb _ _ (omega (arith, ltb-true _ _ h))
lies_in-wide I32 (negsuc n) s h = lt-ltb _ _ (omega (arith, ltb-true _ _ h))
lies_in-wide I64 z s h = h
lies_in-wide U8 z s h = absurd cc
lies_in-wide U16 z s h = absurd cc
lies_in-wide U32 z s h = absurd cc
lies_in-wide U64 z s h = absurd cc

pub ruleset unzigzags = (from_bits-unzigzag)

pub ruleset zigzags = (from_bits-zigzag, lies_in-wide)
