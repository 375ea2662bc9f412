-- Wrapping yields a value of the type, and leaves the values of the type as they are.
use Rattle.std.proofs.Common.{◌≡◌, ◌<◌, ◌≤◌, ◌+◌, ◌-◌, ◌%◌, ◌^◌, ◌∙◌, ℕ, suc, ℤ, pos, negsuc, Bool, true, false, refl, ap, arith}
use Rattle.std.specs.Prelude.{nat_lt, unsigned_abs}
use Rattle.std.specs.Int.{int_rem_euclid}
use Rattle.std.proofs.lemmas.Bool.{cond_both, cond-true, cond-false, ltb-true, ltb-false, lt-ltb, le-ltb, and_parts, and_from}
use Rattle.std.proofs.lemmas.Nat.{mod_below, pow_pos}
use Rattle.std.proofs.Math.Nat.{mod-eq_of_lt}
use Rattle.vx_base.specs.declared.ptype.PType.{PType}
use Rattle.vx_base.specs.declared.ptype.PType.TheVariants.{U8, U16, U32, U64, I8, I16, I32, I64}
use Rattle.vx_base.specs.Integers.{bits_of, natural_bits, is_signed, lies_in, unsigned_of}
use Rattle.vx_base.specs.Wrapping.{low_bits, from_bits, wrap}

-- 2^natural_bits is all bit patterns of an unsigned type, and half of those of a signed one
abbrev pub IsSplit : Bool → ℕ → ℕ → Type 0
IsSplit true all naturals = all ≡ naturals + naturals
IsSplit false all naturals = all ≡ naturals

pub split_of : (p : PType) → IsSplit (is_signed p) (2 ^ bits_of p) (2 ^ natural_bits p)
split_of U8 = refl
split_of U16 = refl
split_of U32 = refl
split_of U64 = refl
split_of I8 = refl
split_of I16 = refl
split_of I32 = refl
split_of I64 = refl

pub naturals-le : (s : Bool) (all naturals : ℕ) → IsSplit s all naturals → naturals ≤ all
naturals-le true all naturals h = omega arith
naturals-le false all naturals h = omega arith

rem-lt : (z : ℤ) (n : ℕ) → 0 < n → unsigned_abs (int_rem_euclid z (pos n)) < n
rem-lt (pos a) n h = mod_below a n h
rem-lt (negsuc a) n h = omega arith

pub low_bits-lt : (p : PType) (z : ℤ) → low_bits p z < 2 ^ bits_of p
low_bits-lt p z = rem-lt z (2 ^ bits_of p) (pow_pos (bits_of p))

-- ---- wrapping yields a value of the type

-- only signed types have bit patterns of 2^natural_bits or more, and they are the negative values
below_zero : (s : Bool) (all naturals n : ℕ) → IsSplit s all naturals → naturals ≤ n → n < all → (s ≡ true) × (all - suc n < naturals)
below_zero true all naturals n h l m = (refl, omega arith)
below_zero false all naturals n h l m = absurd (omega arith)

pub from_bits-held : (p : PType) (n : ℕ) → n < 2 ^ bits_of p → lies_in p (from_bits p n) ≡ true
from_bits-held p n h =
    cond_both (nat_lt n (2 ^ natural_bits p)) (pos n) (negsuc (2 ^ bits_of p - suc n)) (λ z. lies_in p z ≡ true) (λ e. e)
    (λ e. let b = below_zero (is_signed p) (2 ^ bits_of p) (2 ^ natural_bits p) n (split_of p) (ltb-false _ _ e) h in and_from _ _ b.0 (lt-ltb _ _ b.1))

pub wrap-held : (p : PType) (z : ℤ) → lies_in p (wrap p z) ≡ true
wrap-held p z = from_bits-held p (low_bits p z) (low_bits-lt p z)

-- ---- values of the type stay as they are

from_natural : (naturals all m n : ℕ) → n < naturals → naturals ≤ all → m ≡ n % all → (m ≡ n) × (nat_lt m naturals ≡ true)
from_natural naturals all m n h l e =
    let f : n < all = omega arith in
    let same : m ≡ n = e ∙ mod-eq_of_lt f in
    (same, lt-ltb _ _ (omega arith))

from_negative : (s : Bool) (naturals all n : ℕ) → IsSplit s all naturals → s ≡ true → n < naturals → (all - suc (all - 1 - n % all) ≡ n) × (nat_lt (all - 1 - n % all) naturals ≡ false)
from_negative true naturals all n h e l =
    let f : n < all = omega arith in
    let same : n % all ≡ n = mod-eq_of_lt f in
    (omega arith, le-ltb _ _ (omega arith))
from_negative false naturals all n h e l = absurd cc

pub wrap-same : (p : PType) (z : ℤ) → lies_in p z ≡ true → wrap p z ≡ z
wrap-same p (pos n) h =
    let f = from_natural (2 ^ natural_bits p) (2 ^ bits_of p) (n % 2 ^ bits_of p) n (ltb-true _ _ h) (naturals-le (is_signed p) _ _ (split_of p)) refl in
    cond-true _ _ _ f.1 ∙ ap pos f.0
wrap-same p (negsuc n) h =
    let b = and_parts (is_signed p) _ h in
    let f = from_negative (is_signed p) (2 ^ natural_bits p) (2 ^ bits_of p) n (split_of p) b.0 (ltb-true _ _ b.1) in
    cond-false _ _ _ f.1 ∙ ap negsuc f.0

-- ---- in an unsigned type wrapping takes the low bits

pub wrap-unsigned : (p : PType) (z : ℤ) → wrap (unsigned_of p) z ≡ pos (low_bits p z)
wrap-unsigned U8 z = cond-true _ _ _ (lt-ltb _ _ (low_bits-lt U8 z))
wrap-unsigned U16 z = cond-true _ _ _ (lt-ltb _ _ (low_bits-lt U16 z))
wrap-unsigned U32 z = cond-true _ _ _ (lt-ltb _ _ (low_bits-lt U32 z))
wrap-unsigned U64 z = cond-true _ _ _ (lt-ltb _ _ (low_bits-lt U64 z))
wrap-unsigned I8 z = cond-true _ _ _ (lt-ltb _ _ (low_bits-lt U8 z))
wrap-unsigned I16 z = cond-true _ _ _ (lt-ltb _ _ (low_bits-lt U16 z))
wrap-unsigned I32 z = cond-true _ _ _ (lt-ltb _ _ (low_bits-lt U32 z))
wrap-unsigned I64 z = cond-true _ _ _ (lt-ltb _ _ (low_bits-lt U64 z))
