-- Some value is negative where the least of the statistics is.
use Rattle.std.proofs.Common.{◌≡◌, ◌∙◌, ℕ, ℤ, pos, negsuc, Bool, true, false, List, [], ◌∷◌, map, Option, None, Some, cond, refl, sym, ap, ◌-◌, ◌^◌, arith}
use Rattle.std.specs.Prelude.{◌||◌, fold, int_lt, unwrap_or}
use Rattle.std.specs.Int.{int_min}
use Rattle.std.specs.List.{list_any, cons_option}
use Rattle.std.proofs.lemmas.Bool.Decides.{nat_tests}
use Rattle.std.proofs.lemmas.Int.{ints}
use Rattle.vx_base.specs.declared.ptype.PType.{PType}
use Rattle.vx_base.specs.Integers.{greatest, natural_bits}
use Rattle.vx_base.proofs.IntegerLemmas.{whole-integer_in}
use Rattle.vx_base.specs.IntegersIn.{integer_in}
use Rattle.vx_base.specs.PlainValue.{PlainValue, whole_or_zero}
use Rattle.vx_stats.specs.Stats.{valid_wholes, least_in}
use Rattle.vx_schemes.specs.BitPacking.Tree.{is_negative}

or_none : (b : Bool) → b ≡ (b || false)
or_none true = refl
or_none false = refl

or_later : (a b c : Bool) → ((a || b) || c) ≡ (a || (b || c))
or_later true b c = refl
or_later false b c = refl

pub not_negative : (n : ℕ) → is_negative (pos n) ≡ false
not_negative n = grind (arith, nat_tests, ints)

negative-lesser : (a z : ℤ) → is_negative (int_min a z) ≡ (is_negative a || is_negative z)
negative-lesser (pos m) (pos n) = by_test (int_lt (pos n) (pos m)) ∙ sym (ap (λ b. b || is_negative (pos n)) (not_negative m) ∙ not_negative n)
  where
    by_test : (b : Bool) → is_negative (cond b (pos n) (pos m)) ≡ false
    by_test true = not_negative n
    by_test false = not_negative m
negative-lesser (pos m) (negsuc n) = sym (ap (λ b. b || true) (not_negative m))
negative-lesser (negsuc m) (pos n) = refl
negative-lesser (negsuc m) (negsuc n) = by_test (int_lt (negsuc n) (negsuc m))
  where
    by_test : (b : Bool) → is_negative (cond b (negsuc n) (negsuc m)) ≡ true
    by_test true = refl
    by_test false = refl

negative-from : (a : ℤ) (vs : List PlainValue) → is_negative (fold int_min a (valid_wholes vs)) ≡ (is_negative a || list_any is_negative (map whole_or_zero vs))
negative-from a [] = or_none (is_negative a)
negative-from a (v ∷ vs) =
    by_option a vs (integer_in v) (λ low. negative-from low vs) ∙ ap (λ z. is_negative a || (is_negative z || list_any is_negative (map whole_or_zero vs))) (sym (whole-integer_in v))
  where
    by_option : (low : ℤ) (ws : List PlainValue) (o : Option ℤ) → ((first : ℤ) → is_negative (fold int_min first (valid_wholes ws)) ≡ (is_negative first || list_any is_negative (map whole_or_zero ws)))
        → is_negative (fold int_min low (cons_option o (valid_wholes ws))) ≡ (is_negative low || (is_negative (unwrap_or o (pos 0)) || list_any is_negative (map whole_or_zero ws)))
    by_option low ws None rest = rest low
    by_option low ws (Some z) rest =
        rest (int_min low z) ∙ ap (λ b. b || list_any is_negative (map whole_or_zero ws)) (negative-lesser low z) ∙ or_later (is_negative low) (is_negative z) (list_any is_negative (map whole_or_zero ws))

pub negative-least : (p : PType) (vs : List PlainValue) → is_negative (least_in p vs) ≡ list_any is_negative (map whole_or_zero vs)
negative-least p vs = negative-from (greatest p) vs ∙ ap (λ b. b || list_any is_negative (map whole_or_zero vs)) (not_negative (2 ^ natural_bits p - 1))
