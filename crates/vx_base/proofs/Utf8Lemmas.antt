-- The test of UTF-8, and that texts pass it.
use Rattle.std.proofs.Common.{◌≡◌, ℕ, List, true, false, Bool, refl, sym}
use Rattle.std.specs.Prelude.{IsUtf8, Result, Ok, Err, MatchResult, is_ok}
use Rattle.std.specs.Str.{is_utf8}
use Rattle.std.proofs.lemmas.Bool.{and_from, and_parts}
use Rattle.std.proofs.lemmas.Str.{IsUtf8-from_is_utf8, is_utf8-from_IsUtf8}
use Rattle.vx_base.specs.declared.dtype.Nullability.{Nullability}
use Rattle.vx_base.specs.PlainScalar.{fits}
use Rattle.vx_base.specs.PlainType.{PlainType, utf8}
use Rattle.vx_base.specs.PlainValue.{PlainValue, bytes, is_short}

pub is_utf8-false : (bs : List ℕ) → (IsUtf8 bs → ⊥) → is_utf8 bs ≡ false
is_utf8-false bs h = by_test (is_utf8 bs) (λ e. h (IsUtf8-from_is_utf8 bs e))
  where
    by_test : (b : Bool) → (b ≡ true → ⊥) → b ≡ false
    by_test true f = absurd (f refl)
    by_test false f = refl

-- bytes that read as text are UTF-8
pub is_ok-utf8 : {T E : Type 0} (bs : List ℕ) (P : T → Type 0) (Q : E → Type 0) (r : Result T E) → MatchResult r (λ s. P s × IsUtf8 bs) (λ e. (IsUtf8 bs → ⊥) × Q e) → is_ok r ≡ is_utf8 bs
is_ok-utf8 bs P Q (Ok s) h = sym (is_utf8-from_IsUtf8 bs h.1)
is_ok-utf8 bs P Q (Err e) h = sym (is_utf8-false bs h.0)

-- a text of fewer than 2^32 bytes is of the text type
pub fits-utf8 : (n : Nullability) (bs : List ℕ) → is_short bs ≡ true → IsUtf8 bs → fits (utf8 n) (bytes bs) ≡ true
fits-utf8 n bs short text = and_from _ _ short (is_utf8-from_IsUtf8 bs text)

-- the bytes of a text type are UTF-8
pub utf8-fitted : (t : PlainType) (v : PlainValue) (n : Nullability) (bs : List ℕ) → fits t v ≡ true → t ≡ utf8 n → v ≡ bytes bs → IsUtf8 bs
utf8-fitted t v n bs h e f =
    let held : fits (utf8 n) (bytes bs) ≡ true = rw (e, f) at h in
    IsUtf8-from_is_utf8 bs (and_parts (is_short bs) (is_utf8 bs) held).1
