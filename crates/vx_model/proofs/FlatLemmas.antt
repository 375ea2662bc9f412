-- Flat lists of items of any kind with their validity: rows, their number, the row at an index, and when only defaults lie
-- beneath nulls.
use Rattle.std.proofs.Common.{◌≡◌, ◌↔◌, ◌<◌, ℕ, List, [], ◌∷◌, length, map, refl, sym, ap, ◌∙◌, Bool, true, false, cond, Some, None}
use Rattle.std.specs.Prelude.{◌||◌, is_some, slice_index_or}
use Rattle.std.specs.List.{list_any}
use Rattle.std.proofs.lemmas.Bool.{and_parts}
use Rattle.std.proofs.lemmas.List.{length-map, get_or-map}
use Rattle.vx_base.specs.declared.dtype.Nullability.{Nullability}
use Rattle.vx_base.specs.PlainValue.{PlainValue, null, is_null}
use Rattle.vx_model.specs.Decoded.{zeroed, zeroed_by, zero_beneath, zero_beneath_by}
use Rattle.vx_model.specs.Plain.{validity}
use Rattle.vx_model.specs.Rows.{valid_rows, is_valid_at, row_at}
use Rattle.vx_model.specs.Tree.{Validity}
use Rattle.vx_model.specs.WellFormed.{IsValidityOf}
use Rattle.vx_model.proofs.DecodeLemmas.{map-valid_rows, any_null-valid_rows, validity-valid_rows}
use Rattle.vx_model.proofs.RowLemmas.{length-valid_rows, row_at-valid_rows}

-- ---- items that are values, none of them null

module _ {A : Type 0} (value : A → PlainValue) (some : (x : A) → is_null (value x) ≡ false) where
  pub no_null-items : (xs : List A) → list_any is_null (map value xs) ≡ false
  no_null-items [] = refl
  no_null-items (x ∷ xs) = rw (some x, no_null-items xs) refl

  module _ (xs : List A) (valid : Validity) (n : Nullability) (h : IsValidityOf valid (length xs) n) where
    pub length-flat : length (valid_rows valid (map value xs)) ≡ length xs
    length-flat = length-valid_rows valid (map value xs) n (rw length-map h) ∙ length-map xs value

    pub row_at-flat : (default : A) (i : ℕ) → i < length xs → row_at (valid_rows valid (map value xs)) i ≡ cond (is_valid_at valid i) (value (slice_index_or xs i default)) null
    row_at-flat default i l = row_at-valid_rows valid (map value xs) n i (rw length-map h) ∙ ap (λ r. cond (is_valid_at valid i) r null) (get_or-map value xs i default null l)

    pub any_null-flat : list_any is_null (valid_rows valid (map value xs)) ≡ is_some valid
    any_null-flat = any_null-valid_rows valid (map value xs) n (rw length-map h) (no_null-items xs)

    pub validity-flat : validity (valid_rows valid (map value xs)) ≡ valid
    validity-flat = validity-valid_rows valid (map value xs) n (rw length-map h) (no_null-items xs)

    pub items-flat : (item : PlainValue → A) → ((x : A) → item (value x) ≡ x) → map item (valid_rows valid (map value xs)) ≡ zeroed_by (item null) valid xs
    items-flat item back = map-valid_rows item valid (map value xs) n (rw length-map h) ∙ ap (zeroed_by (item null) valid) (all_back xs)
      where
        all_back : (ys : List A) → map item (map value ys) ≡ ys
        all_back [] = refl
        all_back (y ∷ ys) = λ i. back y i ∷ all_back ys i

-- ---- by a test for the default

module _ {A : Type 0} (default : A) (is_default : A → Bool) (found : (x : A) → is_default x ≡ true → x ≡ default) (itself : is_default default ≡ true) where
  kept_item : (b : Bool) (x : A) → (b || is_default x) ≡ true → cond b x default ≡ x
  kept_item true x e = refl
  kept_item false x e = sym (found x e)

  item_kept : (b : Bool) (x : A) → cond b x default ≡ x → (b || is_default x) ≡ true
  item_kept true x e = refl
  item_kept false x e = rw (← e) itself

  zeroed_same : (bits : List Bool) (xs : List A) → zero_beneath is_default bits xs ≡ true → zeroed default bits xs ≡ xs
  zeroed_same [] xs e = refl
  zeroed_same (b ∷ bits) [] e = refl
  zeroed_same (b ∷ bits) (x ∷ xs) e = let s = and_parts (b || is_default x) (zero_beneath is_default bits xs) e in λ i. kept_item b x s.0 i ∷ zeroed_same bits xs s.1 i

  same_zeroed : (bits : List Bool) (xs : List A) → zeroed default bits xs ≡ xs → zero_beneath is_default bits xs ≡ true
  same_zeroed [] xs e = refl
  same_zeroed (b ∷ bits) [] e = refl
  same_zeroed (b ∷ bits) (x ∷ xs) e =
      let h : cond b x default ≡ x = cc in
      let t : zeroed default bits xs ≡ xs = cc in
      rw (item_kept b x h, same_zeroed bits xs t) refl

  -- the items stay exactly where each item beneath a null is the default
  pub same_beneath : (valid : Validity) (xs : List A) → (zero_beneath_by is_default valid xs ≡ true) ↔ (zeroed_by default valid xs ≡ xs)
  same_beneath None xs = (λ e. refl, λ e. refl)
  same_beneath (Some bits) xs = (zeroed_same bits xs, same_zeroed bits xs)
