-- Numbers that were wrapped already, in sums and differences that wrap.
use Rattle.std.proofs.Common.{◌≡◌, ◌<◌, ◌+◌, ◌-◌, ◌%◌, ◌^◌, ◌∙◌, ℕ, suc, ℤ, pos, negsuc, true, refl, sym, ap, arith}
use Rattle.std.specs.Prelude.{◌+ℤ◌, ◌-ℤ◌, nat_lt}
use Rattle.std.proofs.lemmas.Bool.{cond_both, cond-true, lt-ltb}
use Rattle.std.proofs.lemmas.Nat.{pow_pos}
use Rattle.std.proofs.Math.Nat as nat
use Rattle.vx_base.specs.declared.ptype.PType.{PType}
use Rattle.vx_base.specs.declared.ptype.PType.TheVariants.{U8, U16, U32, U64, I8, I16, I32, I64}
use Rattle.vx_base.specs.Integers.{bits_of, natural_bits, lies_in, bits_in, unsigned_of}
use Rattle.vx_base.specs.Wrapping.{low_bits, from_bits, wrap}
use Rattle.vx_base.proofs.WrapLemmas.{low_bits-lt, wrap-held, wrap-unsigned}
use Rattle.vx_base.proofs.WrapSumLemmas.{low_bits-add, low_bits-back}
use Rattle.vx_base.proofs.WrapBitsLemmas.{low_bits-bits, wrap-bits, wrap-difference}

-- ---- wrapping keeps the low bits

bits_in-from_bits : (p : PType) (n : ℕ) → n < 2 ^ bits_of p → bits_in p (from_bits p n) ≡ n
bits_in-from_bits p n h = cond_both (nat_lt n (2 ^ natural_bits p)) (pos n) (negsuc (2 ^ bits_of p - suc n)) (λ z. bits_in p z ≡ n) (λ e. refl) (λ e. omega arith)

low_bits-wrap : (p : PType) (z : ℤ) → low_bits p (wrap p z) ≡ low_bits p z
low_bits-wrap p z = low_bits-bits p (wrap p z) (wrap-held p z) ∙ bits_in-from_bits p (low_bits p z) (low_bits-lt p z)

-- so a sum may be wrapped on the way
pub wrap-sum_left : (p : PType) (a b : ℤ) → wrap p (wrap p a +ℤ b) ≡ wrap p (a +ℤ b)
wrap-sum_left p a b = ap (from_bits p) (low_bits-add p (wrap p a) b ∙ ap (λ n. (n + low_bits p b) % 2 ^ bits_of p) (low_bits-wrap p a) ∙ sym (low_bits-add p a b))

pub wrap-sum_right : (p : PType) (a b : ℤ) → wrap p (a +ℤ wrap p b) ≡ wrap p (a +ℤ b)
wrap-sum_right p a b = ap (from_bits p) (low_bits-add p a (wrap p b) ∙ ap (λ n. (low_bits p a + n) % 2 ^ bits_of p) (low_bits-wrap p b) ∙ sym (low_bits-add p a b))

-- ---- sums and differences of words

pub sum-by_bits : (p : PType) (a b : ℤ) → lies_in p a ≡ true → lies_in p b ≡ true → from_bits p ((bits_in p a + bits_in p b) % 2 ^ 64 % 2 ^ bits_of p) ≡ wrap p (a +ℤ b)
sum-by_bits p a b h l = wrap-bits p a (bits_in p b) h ∙ ap (λ n. wrap p (a +ℤ pos n)) (sym (low_bits-bits p b l)) ∙ ap (from_bits p) (low_bits-back p a b)

from_unsigned : (p : PType) (n : ℕ) → n < 2 ^ bits_of (unsigned_of p) → from_bits (unsigned_of p) n ≡ pos n
from_unsigned U8 n h = cond-true _ _ _ (lt-ltb _ _ h)
from_unsigned U16 n h = cond-true _ _ _ (lt-ltb _ _ h)
from_unsigned U32 n h = cond-true _ _ _ (lt-ltb _ _ h)
from_unsigned U64 n h = cond-true _ _ _ (lt-ltb _ _ h)
from_unsigned I8 n h = cond-true _ _ _ (lt-ltb _ _ h)
from_unsigned I16 n h = cond-true _ _ _ (lt-ltb _ _ h)
from_unsigned I32 n h = cond-true _ _ _ (lt-ltb _ _ h)
from_unsigned I64 n h = cond-true _ _ _ (lt-ltb _ _ h)

bits-unsigned : (p : PType) → bits_of (unsigned_of p) ≡ bits_of p
bits-unsigned U8 = refl
bits-unsigned U16 = refl
bits-unsigned U32 = refl
bits-unsigned U64 = refl
bits-unsigned I8 = refl
bits-unsigned I16 = refl
bits-unsigned I32 = refl
bits-unsigned I64 = refl

pub difference-by_bits : (p : PType) (a b : ℤ) → lies_in p a ≡ true → lies_in p b ≡ true → from_bits p ((bits_in p a + (2 ^ 64 - bits_in p b)) % 2 ^ 64 % 2 ^ bits_of p) ≡ wrap p (a -ℤ b)
difference-by_bits p a b h l =
    let word = (bits_in p a + (2 ^ 64 - bits_in p b)) % 2 ^ 64 in
    let low = word % 2 ^ bits_of (unsigned_of p) in
    let whole : pos low ≡ pos (low_bits p (a -ℤ b)) = sym (from_unsigned p low (nat.mod-lt word (pow_pos (bits_of (unsigned_of p))))) ∙ wrap-difference p b a l h ∙ wrap-unsigned p (a -ℤ b) in
    let same : low ≡ low_bits p (a -ℤ b) = cc in
    ap (from_bits p) (ap (λ n. word % 2 ^ n) (sym (bits-unsigned p)) ∙ same)
