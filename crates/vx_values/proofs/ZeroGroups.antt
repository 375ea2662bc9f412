-- The test for defaults beneath a mask, a group of rows at a time.
use Rattle.std.proofs.Common.{◌≡◌, ◌<◌, ◌+◌, ℕ, zero, suc, List, [], ◌∷◌, length, take, refl, ap, ◌∙◌, arith, add-one, Bool, true, false}
use Rattle.std.specs.Prelude.{◌||◌, ◌&&◌}
use Rattle.vx_model.specs.Decoded.{zero_beneath}
use Rattle.vx_model.proofs.ZeroLemmas.{zero_at}

and_true : (b : Bool) → (b && true) ≡ b
and_true true = refl
and_true false = refl

and_both : (a b c : Bool) → (a && (b && c)) ≡ ((a && b) && c)
and_both true b c = refl
and_both false b c = refl

module _ {A : Type 0} (is_default : A → Bool) (other : A) where
  more-suc : (bits : List Bool) (xs : List A) (i : ℕ) → i < length bits → i < length xs → zero_beneath is_default (take (suc i) bits) xs ≡ (zero_beneath is_default (take i bits) xs && zero_at is_default other bits xs i)
  more-suc [] xs i h l = absurd (omega arith)
  more-suc (b ∷ bits) [] i h l = absurd (omega arith)
  more-suc (b ∷ bits) (x ∷ xs) zero h l = and_true (b || is_default x)
  more-suc (b ∷ bits) (x ∷ xs) (suc i) h l =
      ap (λ t. (b || is_default x) && t) (more-suc bits xs i (omega arith) (omega arith)) ∙ and_both (b || is_default x) (zero_beneath is_default (take i bits) xs) (zero_at is_default other bits xs i)

  -- one more row
  pub zero_beneath-more : (bits : List Bool) (xs : List A) (i : ℕ) → i < length bits → i < length xs → zero_beneath is_default (take (i + 1) bits) xs ≡ (zero_beneath is_default (take i bits) xs && zero_at is_default other bits xs i)
  zero_beneath-more bits xs i h l = rw add-one (more-suc bits xs i h l)

-- where the test fails on the first rows, it fails on all
pub zero_beneath-part : {A : Type 0} (is_default : A → Bool) (bits : List Bool) (xs : List A) (n : ℕ) → zero_beneath is_default (take n bits) xs ≡ false → zero_beneath is_default bits xs ≡ false
zero_beneath-part is_default bits xs zero f = absurd cc
zero_beneath-part is_default [] xs (suc n) f = absurd cc
zero_beneath-part is_default (b ∷ bits) [] (suc n) f = absurd cc
zero_beneath-part is_default (b ∷ bits) (x ∷ xs) (suc n) f = by_first (b || is_default x) f (zero_beneath-part is_default bits xs n)
  where
    by_first : (c : Bool) → (c && zero_beneath is_default (take n bits) xs) ≡ false → (zero_beneath is_default (take n bits) xs ≡ false → zero_beneath is_default bits xs ≡ false) → (c && zero_beneath is_default bits xs) ≡ false
    by_first true g later = later g
    by_first false g later = refl
