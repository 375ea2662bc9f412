-- Binary digits: of a number above 0, the greatest number of some digits, and those that a type's natural numbers have.
use Rattle.std.proofs.Common.{◌≡◌, ◌<◌, ◌≤◌, ◌+◌, ◌-◌, ◌*◌, ◌/◌, ◌^◌, ◌∙◌, ℕ, zero, suc, sym, ap, inl, inr, arith}
use Rattle.std.proofs.lemmas.Bool.{cases_lt}
use Rattle.std.proofs.lemmas.Nat.{pow-add, pow_pos, shr_high}
use Rattle.vx_base.specs.declared.ptype.PType.{PType}
use Rattle.vx_base.specs.declared.ptype.PType.TheVariants.{U8, U16, U32, U64, I8, I16, I32, I64}
use Rattle.vx_base.proofs.DigitsLemmas.{le-digits}
use Rattle.vx_base.specs.Digits.{digits}
use Rattle.vx_base.specs.Integers.{natural_bits}

pub digits-some : (n : ℕ) → 0 < n → 0 < digits n
digits-some n h = elim (cases_lt 0 (digits n)) [ inl some ↦ some | inr none ↦ absurd (omega (arith, le-digits n 0 none)) ]

-- ---- the greatest number of some digits

all_but_one : (a b : ℕ) → 0 < a → 0 < b → (a - 1) * b + (b - 1) ≡ a * b - 1
all_but_one zero b h k = absurd (omega arith)
all_but_one (suc a) zero h k = absurd (omega arith)
all_but_one (suc a) (suc b) h k =
    let rows : suc a - 1 ≡ a = omega arith in
    let columns : suc b - 1 ≡ b = omega arith in
    rw (rows, columns) (omega arith)

pub high_digits : (width : ℕ) → width ≤ 64 → 18446744073709551615 / 2 ^ (64 - width) ≡ 2 ^ width - 1
high_digits width h =
    let all : 64 ≡ width + (64 - width) = omega arith in
    let whole : 2 ^ 64 ≡ 2 ^ width * 2 ^ (64 - width) = ap (λ k. 2 ^ k) all ∙ pow-add 2 width (64 - width) in
    let parts : 18446744073709551615 ≡ (2 ^ width - 1) * 2 ^ (64 - width) + (2 ^ (64 - width) - 1) = ap (λ k. k - 1) whole ∙ sym (all_but_one (2 ^ width) (2 ^ (64 - width)) (pow_pos width) (pow_pos (64 - width))) in
    ap (λ k. k / 2 ^ (64 - width)) parts ∙ shr_high (2 ^ width - 1) (64 - width) (2 ^ (64 - width) - 1) (omega (arith, pow_pos (64 - width)))

-- a number above the greatest of some digits has more
pub more_digits : (width n : ℕ) → 2 ^ width - 1 < n → n < 2 ^ 64 → width < digits n
more_digits width n above h = elim (cases_lt width (digits n)) [
  | inl more ↦ more
  | inr few ↦ absurd (omega (arith, le-digits n width few))
]

-- ---- the types

-- no type has a natural number of more than 64 bits
pub word_bits : (p : PType) → 2 ^ natural_bits p ≤ 2 ^ 64
word_bits U8 = omega arith
word_bits U16 = omega arith
word_bits U32 = omega arith
word_bits U64 = omega arith
word_bits I8 = omega arith
word_bits I16 = omega arith
word_bits I32 = omega arith
word_bits I64 = omega arith
