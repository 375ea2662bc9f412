-- Each message of three numbers has one spelling, which is short, and a number names one integer type.
use Rattle.std.proofs.Common.{◌≡◌, ℕ, zero, suc, ◌+◌, ◌/◌, ◌%◌, ◌^◌, ◌<◌, ◌≤◌, Bool, true, false, cond, ltb, eqb, [], ◌∷◌, ◌++◌, length, refl, sym, ap, ◌∙◌, arith, length-append}
use Rattle.std.proofs.lemmas.Bool.{lt-ltb}
use Rattle.vx_base.specs.declared.ptype.PType.{PType}
use Rattle.vx_base.specs.declared.ptype.PType.TheVariants.{U8, U16, U32, U64, I8, I16, I32, I64}
use Rattle.vx_base.specs.PlainType.{ptype_at, ptype_at-number, ptype_number}
use Rattle.vx_codec.specs.Lists.{delimited}
use Rattle.vx_codec.specs.Message.{IsWhole, ended, number_field, number_spell}
use Rattle.vx_codec.specs.Varint.{groups, varint}
use Rattle.vx_codec.proofs.MessageLaws.{ended_whole, number_field_whole}
use Rattle.vx_metadata.specs.Numbers.{Numbers, numbers}

pub numbers_whole : IsWhole 0 numbers
numbers_whole =
    number_field_whole 0 1 (number_field 2 (number_field 3 ended)) (omega arith)
    (number_field_whole 8 2 (number_field 3 ended) (omega arith) (number_field_whole 16 3 ended (omega arith) (ended_whole 24)))

-- ---- lengths

groups_short : (k n : ℕ) → length (groups k n) ≤ k
groups_short zero n = omega arith
groups_short (suc k) n = by_test (groups_short k (n / 128)) (ltb n 128)
  where
    by_test : length (groups k (n / 128)) ≤ k → (b : Bool) → length (cond b (n ∷ []) ((n % 128 + 128) ∷ groups k (n / 128))) ≤ suc k
    by_test h true = omega arith
    by_test h false = omega arith

number_short : (key n : ℕ) → length (number_spell key n) ≤ 11
number_short key n = by_test (eqb n 0)
  where
    by_test : (b : Bool) → length (cond b [] (key ∷ varint.spell n)) ≤ 11
    by_test true = omega arith
    by_test false = omega (arith, groups_short 10 n)

-- a number that is small enough is spelled as a varint
pub number_fits : (n : ℕ) → n < 2 ^ 64 → varint.Fits n
number_fits n lt = (omega arith, lt-ltb n (2 ^ 64) lt)

-- a message of three numbers can be the content of a field
pub numbers_delimited : (x : Numbers) → delimited.Fits (numbers.spell x)
numbers_delimited (a, (b, (c, t))) =
    let first = number_spell 8 a in
    let second = number_spell 16 b in
    let third = number_spell 24 c ++ [] in
    let short : length (first ++ (second ++ third)) ≤ 33 =
    omega (arith, length-append first (second ++ third), length-append second third, length-append (number_spell 24 c) [], number_short 8 a, number_short 16 b, number_short 24 c) in
    (number_fits (length (first ++ (second ++ third))) (omega arith), refl)

-- ---- integer types

pub ptype_number_small : (p : PType) → ptype_number p < 8
ptype_number_small U8 = omega arith
ptype_number_small U16 = omega arith
ptype_number_small U32 = omega arith
ptype_number_small U64 = omega arith
ptype_number_small I8 = omega arith
ptype_number_small I16 = omega arith
ptype_number_small I32 = omega arith
ptype_number_small I64 = omega arith

-- types with one number are one
pub ptype_one : (p q : PType) → ptype_number p ≡ ptype_number q → p ≡ q
ptype_one p q e = sym (ptype_at-number p) ∙ ap ptype_at e ∙ ptype_at-number q
