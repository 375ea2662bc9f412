-- Numbers wrapped into a type.
use Rattle.std.proofs.Common.{◌≡◌, ◌<◌, ◌≤◌, ◌-◌, ◌^◌, ◌∙◌, ℕ, suc, ℤ, pos, negsuc, refl, sym, arith, to_z, of_z}
use Rattle.std.specs.Int.{w128, int_rem_euclid}
use Rattle.std.specs.Prelude.{◌+ℤ◌, ◌-ℤ◌, ◌≤ℤ◌, ◌<ℤ◌, nat_lt, unsigned_abs}
use Rattle.std.proofs.lemmas.Bool.{cond-true, cond-false, lt-ltb, le-ltb}
use Rattle.std.proofs.lemmas.Int.{ints}
use Rattle.vx_base.specs.declared.ptype.PType.{PType}
use Rattle.vx_base.specs.declared.ptype.PType.TheVariants.{U8, U16, U32, U64, I8, I16, I32, I64}
use Rattle.vx_base.specs.Integers.{bits_of, natural_bits, least, greatest}
use Rattle.vx_base.specs.Wrapping.{wrap, low_bits}

-- how many numbers a type has, as 128 bits compute it
pub all_term : (p : PType) (g l : ℤ) → g ≡ greatest p → l ≡ least p → to_z w128 (of_z w128 (to_z w128 (of_z w128 (to_z w128 (of_z w128 g) -ℤ to_z w128 (of_z w128 l))) +ℤ pos 1)) ≡ pos (2 ^ bits_of p)
all_term U8 g l a b = omega (arith, ints)
all_term U16 g l a b = omega (arith, ints)
all_term U32 g l a b = omega (arith, ints)
all_term U64 g l a b = omega (arith, ints)
all_term I8 g l a b = omega (arith, ints)
all_term I16 g l a b = omega (arith, ints)
all_term I32 g l a b = omega (arith, ints)
all_term I64 g l a b = omega (arith, ints)

pub record IsFew (p : PType) : Type 0 where
  pub all : 2 ^ bits_of p ≤ 2 ^ 64
  pub natural : 2 ^ natural_bits p ≤ 2 ^ bits_of p
  pub some : 1 ≤ 2 ^ natural_bits p

pub all-few : (p : PType) → IsFew p
all-few U8 = record { all = omega arith; natural = omega arith; some = omega arith }
all-few U16 = record { all = omega arith; natural = omega arith; some = omega arith }
all-few U32 = record { all = omega arith; natural = omega arith; some = omega arith }
all-few U64 = record { all = omega arith; natural = omega arith; some = omega arith }
all-few I8 = record { all = omega arith; natural = omega arith; some = omega arith }
all-few I16 = record { all = omega arith; natural = omega arith; some = omega arith }
all-few I32 = record { all = omega arith; natural = omega arith; some = omega arith }
all-few I64 = record { all = omega arith; natural = omega arith; some = omega arith }

rem-natural : (z d : ℤ) → int_rem_euclid z d ≡ pos (unsigned_abs (int_rem_euclid z d))
rem-natural (pos n) d = refl
rem-natural (negsuc n) d = refl

in_low : (p : PType) (m : ℕ) → pos m ≤ℤ greatest p → m < 2 ^ natural_bits p
in_low U8 m h = omega (arith, ints)
in_low U16 m h = omega (arith, ints)
in_low U32 m h = omega (arith, ints)
in_low U64 m h = omega (arith, ints)
in_low I8 m h = omega (arith, ints)
in_low I16 m h = omega (arith, ints)
in_low I32 m h = omega (arith, ints)
in_low I64 m h = omega (arith, ints)

in_high : (p : PType) (m : ℕ) → greatest p <ℤ pos m → 2 ^ natural_bits p ≤ m
in_high U8 m h = omega (arith, ints)
in_high U16 m h = omega (arith, ints)
in_high U32 m h = omega (arith, ints)
in_high U64 m h = omega (arith, ints)
in_high I8 m h = omega (arith, ints)
in_high I16 m h = omega (arith, ints)
in_high I32 m h = omega (arith, ints)
in_high I64 m h = omega (arith, ints)

-- what is left of a division by the type's numbers, where it is one of them
pub wrapped-low : (p : PType) (z low : ℤ) → low ≡ int_rem_euclid z (pos (2 ^ bits_of p)) → low ≤ℤ greatest p → low ≡ wrap p z
wrapped-low p z low e h =
    let m = low_bits p z in
    let own : low ≡ pos m = e ∙ rem-natural z (pos (2 ^ bits_of p)) in
    let small = in_low p m (rw own at h) in
    own ∙ sym (cond-true (nat_lt m (2 ^ natural_bits p)) (pos m) (negsuc (2 ^ bits_of p - suc m)) (lt-ltb m (2 ^ natural_bits p) small))

-- and where it isn't
pub wrapped-high : (p : PType) (z low : ℤ) → low ≡ int_rem_euclid z (pos (2 ^ bits_of p)) → low <ℤ pos (2 ^ bits_of p) → greatest p <ℤ low → low -ℤ pos (2 ^ bits_of p) ≡ wrap p z
wrapped-high p z low e l h =
    let m = low_bits p z in
    let own : low ≡ pos m = e ∙ rem-natural z (pos (2 ^ bits_of p)) in
    let large = in_high p m (rw own at h) in
    let all = 2 ^ bits_of p in
    let less : m < all = (let b : pos m <ℤ pos all = rw own at l in omega (arith, ints)) in
    let left : low -ℤ pos all ≡ negsuc (all - suc m) = omega (arith, ints) in
    left ∙ sym (cond-false (nat_lt m (2 ^ natural_bits p)) (pos m) (negsuc (all - suc m)) (le-ltb m (2 ^ natural_bits p) large))
