-- Wrapping sums and differences by their bits, and that reference plus difference is the number.
use Rattle.std.proofs.Common.{◌≡◌, ◌<◌, ◌≤◌, ◌+◌, ◌-◌, ◌*◌, ◌%◌, ◌^◌, ◌∙◌, ℕ, suc, ℤ, pos, negsuc, true, refl, sym, ap, arith}
use Rattle.std.specs.Prelude.{◌+ℤ◌, ◌-ℤ◌, unsigned_abs}
use Rattle.std.specs.Int.{int_rem_euclid}
use Rattle.std.proofs.lemmas.Int.{ints, int_rem_euclid_is}
use Rattle.std.proofs.lemmas.Nat.{pow_pos}
use Rattle.std.proofs.Math.Nat.{add-mod, mod-eq_of_lt, mul-le-mul_left}
use Rattle.vx_base.specs.declared.ptype.PType.{PType}
use Rattle.vx_base.specs.Integers.{bits_of, lies_in, unsigned_of}
use Rattle.vx_base.specs.Wrapping.{low_bits, from_bits, wrap}
use Rattle.vx_base.proofs.WrapLemmas.{low_bits-lt, wrap-same, wrap-unsigned}

-- a whole number plus some multiple of n is a natural number
record IsLifted (z : ℤ) (n : ℕ) : Type 0 where
  times : ℕ
  total : ℕ
  sum : z +ℤ pos (times * n) ≡ pos total

lifted : (z : ℤ) (n : ℕ) → 0 < n → IsLifted z n
lifted (pos a) n h = record { times = 0; total = a; sum = omega (arith, ints) }
lifted (negsuc a) n h = record { times = suc a; total = suc a * n - suc a; sum = let more : suc a * 1 ≤ suc a * n = mul-le-mul_left (suc a) (omega arith) in omega (arith, ints) }

rest_is : (z : ℤ) (n k m : ℕ) → 0 < n → z +ℤ pos (k * n) ≡ pos m → unsigned_abs (int_rem_euclid z (pos n)) ≡ m % n
rest_is z n k m h e = ap unsigned_abs (int_rem_euclid_is z (pos n) n k m h refl e)

rest-add : (a b : ℤ) (n : ℕ) → 0 < n → unsigned_abs (int_rem_euclid (a +ℤ b) (pos n)) ≡ (unsigned_abs (int_rem_euclid a (pos n)) + unsigned_abs (int_rem_euclid b (pos n))) % n
rest-add a b n h =
    let x = lifted a n h in
    let y = lifted b n h in
    let both : (a +ℤ b) +ℤ pos ((x.times + y.times) * n) ≡ pos (x.total + y.total) = omega (arith, ints, x.sum, y.sum) in
    rest_is (a +ℤ b) n (x.times + y.times) (x.total + y.total) h both ∙ add-mod x.total y.total n
    ∙ (let p = sym (rest_is a n x.times x.total h x.sum) in let q = sym (rest_is b n y.times y.total h y.sum) in λ i. (p i + q i) % n)

pub low_bits-add : (p : PType) (a b : ℤ) → low_bits p (a +ℤ b) ≡ (low_bits p a + low_bits p b) % 2 ^ bits_of p
low_bits-add p a b = rest-add a b (2 ^ bits_of p) (pow_pos (bits_of p))

pub low_bits-natural : (p : PType) (n : ℕ) → n < 2 ^ bits_of p → low_bits p (pos n) ≡ n
low_bits-natural p n h = mod-eq_of_lt h

pub low_bits-back : (p : PType) (a b : ℤ) → low_bits p (a +ℤ pos (low_bits p b)) ≡ low_bits p (a +ℤ b)
low_bits-back p a b = low_bits-add p a (pos (low_bits p b)) ∙ ap (λ n. (low_bits p a + n) % 2 ^ bits_of p) (low_bits-natural p (low_bits p b) (low_bits-lt p b)) ∙ sym (low_bits-add p a b)

-- the wrapped sum of a reference and the wrapped difference from it
pub wrap-back : (p : PType) (reference z : ℤ) → lies_in p z ≡ true → wrap p (reference +ℤ wrap (unsigned_of p) (z -ℤ reference)) ≡ z
wrap-back p reference z h =
    let same : reference +ℤ (z -ℤ reference) ≡ z = omega (arith, ints) in
    ap (λ w. wrap p (reference +ℤ w)) (wrap-unsigned p (z -ℤ reference)) ∙ ap (from_bits p) (low_bits-back p reference (z -ℤ reference) ∙ ap (low_bits p) same) ∙ wrap-same p z h
