-- The validity of a plain tree as one bit a row.
use Rattle.std.proofs.Common.{◌≡◌, ◌∙◌, zero, suc, ℕ, ℤ, Bool, true, false, List, length, Some, None, cond, refl, sym, ap, subst}
use Rattle.std.specs.Prelude.{is_some, not, replicate, unwrap_or}
use Rattle.std.proofs.lemmas.List.{length-map}
use Rattle.std.specs.List.{list_all, list_any}
use Rattle.vx_base.specs.declared.ptype.PType.{PType}
use Rattle.vx_base.specs.declared.dtype.Nullability.{Nullability}
use Rattle.vx_base.specs.declared.dtype.Nullability.TheVariants.{NonNullable, Nullable}
use Rattle.vx_base.proofs.NullLemmas.{bits-not_null}
use Rattle.vx_base.specs.PlainValue.{is_null}
use Rattle.vx_model.specs.Tree.{Tree, Validity, primitive}
use Rattle.vx_model.specs.Plain.{validity, valid_bits, IsPlain}
use Rattle.vx_model.specs.Refusals.{validity_allowed}
use Rattle.vx_model.specs.Rows.{rows}
use Rattle.vx_model.specs.WellFormed.{WellFormed, IsValidityOf}
use Rattle.vx_schemes_common.proofs.ColumnLemmas.{validity_is, length_is}

-- without bits each row is valid
pub all_bits-true : (valid : Validity) (count : ℕ) → is_some valid ≡ false → list_all (λ bit. bit) (unwrap_or valid (replicate count true)) ≡ true
all_bits-true (Some bits) count e = absurd cc
all_bits-true None zero e = refl
all_bits-true None (suc count) e = all_bits-true None count e

pub all_bits-none : (valid : Validity) (count : ℕ) → is_some valid ≡ false → unwrap_or valid (replicate count true) ≡ replicate count true
all_bits-none (Some bits) count e = absurd cc
all_bits-none None count e = refl

module _ (t : Tree) (p : PType) (xs : List ℤ) (valid : Validity) (n : Nullability) (w : WellFormed t) (at : t ≡ primitive p xs valid n) (is_plain : IsPlain t) where
  bits_are : valid ≡ validity (rows t)
  bits_are = validity_is t p xs valid n w at is_plain

  long : length (rows t) ≡ length xs
  long = length_is t p xs valid n w at is_plain

  bits_by : (bits : List Bool) → valid ≡ Some bits → bits ≡ valid_bits (rows t)
  bits_by bits e = by_any (list_any is_null (rows t)) (sym bits_are ∙ e)
    where
      by_any : (b : Bool) → cond b (Some (valid_bits (rows t))) None ≡ Some bits → bits ≡ valid_bits (rows t)
      by_any true q = cc
      by_any false q = absurd cc

  no_null : valid ≡ None → list_any is_null (rows t) ≡ false
  no_null e = by_any (list_any is_null (rows t)) (sym bits_are ∙ e)
    where
      by_any : (b : Bool) → cond b (Some (valid_bits (rows t))) None ≡ None → b ≡ false
      by_any true q = absurd cc
      by_any false q = refl

  -- a bit for each row, where there are bits and where there are none
  abbrev pub all_bits : List Bool
  all_bits = unwrap_or valid (replicate (length xs) true)

  pub all_bits-are : all_bits ≡ valid_bits (rows t)
  all_bits-are = by_validity valid refl
    where
      by_validity : (o : Validity) → valid ≡ o → unwrap_or o (replicate (length xs) true) ≡ valid_bits (rows t)
      by_validity (Some bits) e = bits_by bits e
      by_validity None e = ap (λ k. replicate k true) (sym long) ∙ sym (bits-not_null (rows t) (no_null e))

  pub length-all_bits : length all_bits ≡ length xs
  length-all_bits = ap length all_bits-are ∙ length-map (rows t) (λ v. not (is_null v)) ∙ long

  pub all_bits-allowed : validity_allowed (Some all_bits) n ≡ true
  all_bits-allowed = by_validity valid (subst WellFormed at w).0.validity
    where
      whole : (k : ℕ) (m : Nullability) → validity_allowed (Some (replicate k true)) m ≡ true
      whole k Nullable = refl
      whole zero NonNullable = refl
      whole (suc k) NonNullable = whole k NonNullable

      by_validity : (o : Validity) → IsValidityOf o (length xs) n → validity_allowed (Some (unwrap_or o (replicate (length xs) true))) n ≡ true
      by_validity (Some bits) v = rw v.1 refl
      by_validity None v = whole (length xs) n
