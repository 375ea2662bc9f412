-- One step of the loops that write and test the default beneath a mask.
use Rattle.std.proofs.Common.{◌≡◌, ◌<◌, ◌≤◌, ◌+◌, ℕ, zero, suc, List, [], ◌∷◌, length, take, refl, ap, arith, add-one, Bool, true, false, cond}
use Rattle.std.specs.Prelude.{◌||◌, ◌&&◌, slice_index_or, slice_set}
use Rattle.std.proofs.lemmas.List.{take_all}
use Rattle.vx_model.specs.Decoded.{zeroed, zero_beneath}

module _ {A : Type 0} (default : A) where
  -- the item at an index, or the default where its bit is false
  abbrev pub kept_at : List A → ℕ → Bool → A
  kept_at xs i bit = cond bit (slice_index_or xs i default) default

  zeroed-take-suc : (bits : List Bool) (xs : List A) (i : ℕ) → i < length bits → i < length xs → zeroed default (take (suc i) bits) xs ≡ slice_set (zeroed default (take i bits) xs) i (kept_at (zeroed default (take i bits) xs) i (slice_index_or bits i false))
  zeroed-take-suc [] xs i h l = absurd (omega arith)
  zeroed-take-suc (b ∷ bits) [] i h l = absurd (omega arith)
  zeroed-take-suc (b ∷ bits) (x ∷ xs) zero h l = refl
  zeroed-take-suc (b ∷ bits) (x ∷ xs) (suc i) h l = ap (λ ys. cond b x default ∷ ys) (zeroed-take-suc bits xs i (omega arith) (omega arith))

  pub zeroed-next : (bits : List Bool) (xs : List A) (i : ℕ) → i < length bits → i < length xs → zeroed default (take (i + 1) bits) xs ≡ slice_set (zeroed default (take i bits) xs) i (kept_at (zeroed default (take i bits) xs) i (slice_index_or bits i false))
  zeroed-next bits xs i h l = rw add-one (zeroed-take-suc bits xs i h l)

-- with any test, and any item out of bounds
module _ {A : Type 0} (is_default : A → Bool) (other : A) where
  -- whether the item at an index passes where its bit is false
  abbrev pub zero_at : List Bool → List A → ℕ → Bool
  zero_at bits xs i = slice_index_or bits i false || is_default (slice_index_or xs i other)

  zero-take-suc : (bits : List Bool) (xs : List A) (i : ℕ) → i < length bits → i < length xs → zero_beneath is_default (take i bits) xs ≡ true → zero_at bits xs i ≡ true → zero_beneath is_default (take (suc i) bits) xs ≡ true
  zero-take-suc [] xs i h l e f = absurd (omega arith)
  zero-take-suc (b ∷ bits) [] i h l e f = absurd (omega arith)
  zero-take-suc (b ∷ bits) (x ∷ xs) zero h l e f = rw f refl
  zero-take-suc (b ∷ bits) (x ∷ xs) (suc i) h l e f = both (b || is_default x) e (λ t. zero-take-suc bits xs i (omega arith) (omega arith) t f)
    where
      both : (c : Bool) → (c && zero_beneath is_default (take i bits) xs) ≡ true → (zero_beneath is_default (take i bits) xs ≡ true → zero_beneath is_default (take (suc i) bits) xs ≡ true) → (c && zero_beneath is_default (take (suc i) bits) xs) ≡ true
      both true e step = step e
      both false e step = absurd cc

  pub zero_beneath-next : (bits : List Bool) (xs : List A) (i : ℕ) → i < length bits → i < length xs → zero_beneath is_default (take i bits) xs ≡ true → zero_at bits xs i ≡ true → zero_beneath is_default (take (i + 1) bits) xs ≡ true
  zero_beneath-next bits xs i h l e f = rw add-one (zero-take-suc bits xs i h l e f)

  pub zero_beneath-stop : (bits : List Bool) (xs : List A) (i : ℕ) → i < length bits → i < length xs → zero_at bits xs i ≡ false → zero_beneath is_default bits xs ≡ false
  zero_beneath-stop [] xs i h l f = absurd (omega arith)
  zero_beneath-stop (b ∷ bits) [] i h l f = absurd (omega arith)
  zero_beneath-stop (b ∷ bits) (x ∷ xs) zero h l f = rw f refl
  zero_beneath-stop (b ∷ bits) (x ∷ xs) (suc i) h l f = rw (zero_beneath-stop bits xs i (omega arith) (omega arith) f) (last (b || is_default x))
    where
      last : (c : Bool) → (c && false) ≡ false
      last true = refl
      last false = refl

pub zero_beneath-end : {A : Type 0} (is_default : A → Bool) (bits : List Bool) (xs : List A) (i : ℕ) → length bits ≤ i → zero_beneath is_default (take i bits) xs ≡ zero_beneath is_default bits xs
zero_beneath-end is_default bits xs i h = rw (take_all i bits h) refl

pub ruleset zeroing = (zeroed-next, zero_beneath-next, zero_beneath-stop, zero_beneath-end)
