-- Products of whole numbers.
use Rattle.std.proofs.Common.{◌≡◌, ℕ, suc, ◌+◌, ◌-◌, ◌*◌, ◌≤◌, ℤ, pos, negsuc, ◌+ℤ◌, ◌*ℤ◌, ◌≤ℤ◌, ◌<ℤ◌, ap, sym, ◌∙◌, arith, unsigned_abs}
use Rattle.std.proofs.lemmas.Int.{ints, unsigned_abs-mul}
use borrow.Author.Differences.{up, down}
use native.Mathlib.Nat.{add-mul, mul_assoc, mul-le-mul}

-- z = m - n times d
product : (z : ℤ) (m n d : ℕ) → z +ℤ pos n ≡ pos m → z *ℤ pos d +ℤ pos (n * d) ≡ pos (m * d)
product (pos a) m n d e = let h : a + n ≡ m = omega (arith, ints) in let k = sym (add-mul a n d) ∙ ap (λ x. x * d) h in ap pos k
product (negsuc a) m n d e = let h : m + suc a ≡ n = omega (arith, ints) in let k = sym (add-mul m (suc a) d) ∙ ap (λ x. x * d) h in omega (arith, ints)

parts_of_sign : (z : ℤ) → z +ℤ pos (down z) ≡ pos (up z)
parts_of_sign (pos a) = omega (arith, ints)
parts_of_sign (negsuc a) = omega (arith, ints)

pub add-mul_whole : (a b : ℤ) (d : ℕ) → (a +ℤ b) *ℤ pos d ≡ a *ℤ pos d +ℤ b *ℤ pos d
add-mul_whole a b d =
    let both : a +ℤ b +ℤ pos (down a + down b) ≡ pos (up a + up b) = omega (arith, ints) in
    let sum = product (a +ℤ b) (up a + up b) (down a + down b) d both in
    let first = product a (up a) (down a) d (parts_of_sign a) in
    let second = product b (up b) (down b) d (parts_of_sign b) in
    let ups = add-mul (up a) (up b) d in
    let downs = add-mul (down a) (down b) d in
    omega (arith, ints)

pub mul_assoc_whole : (z : ℤ) (m d : ℕ) → z *ℤ pos m *ℤ pos d ≡ z *ℤ pos (m * d)
mul_assoc_whole z m d =
    let once = product z (up z) (down z) m (parts_of_sign z) in
    let twice = product (z *ℤ pos m) (up z * m) (down z * m) d once in
    let joined = product z (up z) (down z) (m * d) (parts_of_sign z) in
    let ups = mul_assoc (up z) m d in
    let downs = mul_assoc (down z) m d in
    omega (arith, ints)

-- |a * b| ≤ m * n
pub unsigned_abs-mul-le : (a b : ℤ) (m n : ℕ) → unsigned_abs a ≤ m → unsigned_abs b ≤ n → unsigned_abs (a *ℤ b) ≤ m * n
unsigned_abs-mul-le a b m n p q = omega (arith, unsigned_abs-mul a b, mul-le-mul p q)

-- from a to b > a there is a whole m
pub mul-step : (a b : ℤ) (m : ℕ) → a <ℤ b → (a *ℤ pos m +ℤ pos m) ≤ℤ (b *ℤ pos m)
mul-step a b m h =
    let k = (up b + down a) - (up a + down b) - 1 in
    let e : b ≡ a +ℤ pos (suc k) = omega (arith, ints) in
    let f = ap (λ x. x *ℤ pos m) e ∙ add-mul_whole a (pos (suc k)) m in
    let g = add-mul k 1 m in
    omega (arith, ints)
