-- Stored columns whose items and validity bits are chosen alike: their rows are the rows chosen alike.
use Rattle.std.proofs.Common.{◌≡◌, ℕ, ℤ, Bool, true, List, map, length, Some, None, Option, option_map, refl, sym, ap, ◌∙◌}
use Rattle.std.specs.List.{list_all}
use Rattle.std.proofs.lemmas.Bool.{eq-eqb}
use Rattle.std.proofs.lemmas.List.{length-map}
use Rattle.vx_base.specs.declared.error.VortexError.{VortexError}
use Rattle.vx_base.specs.declared.dtype.Nullability.{Nullability}
use Rattle.vx_base.specs.declared.ptype.PType.{PType}
use Rattle.vx_base.specs.PlainScalar.{fits}
use Rattle.vx_base.specs.PlainType.{PlainType, nullability_of}
use Rattle.vx_base.specs.PlainType as types
use Rattle.vx_base.specs.PlainValue.{PlainValue, bytes, int, is_short, truth}
use Rattle.vx_model.specs.Column.{Column, column, column_of}
use Rattle.vx_model.specs.Refusals.{kept, primitive_refusal, validity_allowed, validity_length, var_bin_view_refusal}
use Rattle.vx_model.specs.Rows.{masked_rows, rows, valid_rows}
use Rattle.vx_model.specs.Tree.{Tree, Validity, bool, primitive, var_bin_view}
use Rattle.vx_model.specs.WellFormed.{IsValidityOf, WellFormed}
use Rattle.vx_model.proofs.MadeLemmas.{rows_fit}
use Rattle.vx_selections.proofs.Validities.{admitted, kept-allowed, kept-kept, kept-length, kept-rows, view_admitted}

-- one choice of items, bits and rows
module _ {A : Type 0} (value : A → PlainValue) (items : List A → List A) (bits : List Bool → List Bool) (chosen : List PlainValue → List PlainValue)
    (under : (xs : List A) → map value (items xs) ≡ chosen (map value xs))
    (masks : (own : List Bool) (rs : List PlainValue) → length own ≡ length rs → chosen (masked_rows own rs) ≡ masked_rows (bits own) (chosen rs))
    (lengths : (own : List Bool) (xs : List A) → length own ≡ length xs → length (bits own) ≡ length (items xs)) where
  bits_long : (xs : List A) (valid : Validity) (n : Nullability) → IsValidityOf valid (length xs) n → validity_length (option_map bits valid) (length (items xs)) ≡ true
  bits_long xs None n h = refl
  bits_long xs (Some own) n h = eq-eqb _ _ (lengths own xs h.0)

  bits_allowed : (xs : List A) (valid : Validity) (n : Nullability) → IsValidityOf valid (length xs) n → validity_allowed (option_map bits valid) n ≡ true
  bits_allowed xs None n h = refl
  bits_allowed xs (Some own) n h = ap (λ m. validity_allowed (Some (bits own)) m) h.1

  chosen_under : (xs : List A) (valid : Validity) (n : Nullability) → IsValidityOf valid (length xs) n → valid_rows (option_map bits valid) (map value (items xs)) ≡ chosen (valid_rows valid (map value xs))
  chosen_under xs None n h = under xs
  chosen_under xs (Some own) n h = ap (masked_rows (bits own)) (under xs) ∙ sym (masks own (map value xs) (h.0 ∙ sym (length-map xs value)))

  -- what was chosen, in the validity's one form, is admitted
  pub leaf_admitted : (xs : List A) (valid : Validity) (n : Nullability) → IsValidityOf valid (length xs) n → primitive_refusal (length (items xs)) (kept (option_map bits valid)) n ≡ None
  leaf_admitted xs valid n h =
      admitted (kept (option_map bits valid)) (length (items xs)) n (kept-length (option_map bits valid) (length (items xs)) (bits_long xs valid n h))
      (kept-allowed (option_map bits valid) n (bits_allowed xs valid n h))

  -- and its rows are the chosen rows
  pub leaf_rows : (xs : List A) (valid : Validity) (n : Nullability) → IsValidityOf valid (length xs) n
      → valid_rows (kept (kept (option_map bits valid))) (map value (items xs)) ≡ chosen (valid_rows valid (map value xs))
  leaf_rows xs valid n h =
      ap (λ v. valid_rows v (map value (items xs))) (kept-kept (option_map bits valid))
      ∙ kept-rows (option_map bits valid) (map value (items xs)) (ap (validity_length (option_map bits valid)) (length-map (items xs) value) ∙ bits_long xs valid n h)
      ∙ chosen_under xs valid n h

-- ---- by the kind of the items

-- a node that its constructor admits, and whose column is the one that is wanted
pub record Stands (c : Column) (refusal : Option VortexError) (made : Tree) : Type 0 where
  pub accepted : refusal ≡ None
  pub column : column_of made ≡ c

-- truth values
module _ (items : List Bool → List Bool) (chosen : List PlainValue → List PlainValue) (under : (xs : List Bool) → map truth (items xs) ≡ chosen (map truth xs))
    (masks : (own : List Bool) (rs : List PlainValue) → length own ≡ length rs → chosen (masked_rows own rs) ≡ masked_rows (items own) (chosen rs))
    (lengths : (own xs : List Bool) → length own ≡ length xs → length (items own) ≡ length (items xs)) where
  pub bool_stands : (bs : List Bool) (valid : Validity) (n : Nullability) (ys : List Bool) (bits : Validity) → WellFormed (bool bs valid n) → ys ≡ items bs → bits ≡ kept (option_map items valid)
      → Stands (column (types.boolean n) (chosen (rows (bool bs valid n)))) (primitive_refusal (length ys) bits n) (bool ys (kept bits) n)
  bool_stands bs valid n ys bits w y b = record {
    accepted = rw (y, b) (leaf_admitted truth items items chosen under masks lengths bs valid n w.0);
    column = ap (column (types.boolean n)) all;
  }
    where
      all : valid_rows (kept bits) (map truth ys) ≡ chosen (rows (bool bs valid n))
      all = rw (y, b) (leaf_rows truth items items chosen under masks lengths bs valid n w.0)

-- integers
module _ (items : List ℤ → List ℤ) (of_bits : List Bool → List Bool) (chosen : List PlainValue → List PlainValue) (under : (xs : List ℤ) → map int (items xs) ≡ chosen (map int xs))
    (masks : (own : List Bool) (rs : List PlainValue) → length own ≡ length rs → chosen (masked_rows own rs) ≡ masked_rows (of_bits own) (chosen rs))
    (lengths : (own : List Bool) (xs : List ℤ) → length own ≡ length xs → length (of_bits own) ≡ length (items xs)) where
  pub ints_stand : (p : PType) (xs : List ℤ) (valid : Validity) (n : Nullability) (q : PType) (ys : List ℤ) (bits : Validity) → WellFormed (primitive p xs valid n) → q ≡ p → ys ≡ items xs → bits ≡ kept (option_map of_bits valid)
      → Stands (column (types.primitive p n) (chosen (rows (primitive p xs valid n)))) (primitive_refusal (length ys) bits n) (primitive q ys (kept bits) n)
  ints_stand p xs valid n q ys bits w k y b = record {
    accepted = rw (y, b) (leaf_admitted int items of_bits chosen under masks lengths xs valid n w.0.validity);
    column = λ i. column (types.primitive (k i) n) (all i);
  }
    where
      all : valid_rows (kept bits) (map int ys) ≡ chosen (rows (primitive p xs valid n))
      all = rw (y, b) (leaf_rows int items of_bits chosen under masks lengths xs valid n w.0.validity)

-- texts and binaries; a choice of some has what holds of all
module _ (items : List (List ℕ) → List (List ℕ)) (of_bits : List Bool → List Bool) (chosen : List PlainValue → List PlainValue) (under : (xs : List (List ℕ)) → map bytes (items xs) ≡ chosen (map bytes xs))
    (masks : (own : List Bool) (rs : List PlainValue) → length own ≡ length rs → chosen (masked_rows own rs) ≡ masked_rows (of_bits own) (chosen rs))
    (lengths : (own : List Bool) (xs : List (List ℕ)) → length own ≡ length xs → length (of_bits own) ≡ length (items xs))
    (all_items : (xs : List (List ℕ)) → list_all is_short xs ≡ true → list_all is_short (items xs) ≡ true)
    (all_rows : (t : PlainType) (rs : List PlainValue) → list_all (fits t) rs ≡ true → list_all (fits t) (chosen rs) ≡ true) where
  pub view_stands : (vs : List (List ℕ)) (valid : Validity) (t : PlainType) (ys : List (List ℕ)) (bits : Validity) (s : PlainType) → WellFormed (var_bin_view vs valid t) → ys ≡ items vs → bits ≡ kept (option_map of_bits valid) → s ≡ t
      → Stands (column t (chosen (rows (var_bin_view vs valid t)))) (var_bin_view_refusal ys bits s) (var_bin_view ys (kept bits) s)
  view_stands vs valid t ys bits s w y b e = record {
    accepted = rw (e, y, b) (view_admitted (items vs) (kept (option_map of_bits valid)) t w.0.byte_type (all_items vs w.0.short)
        (leaf_admitted bytes items of_bits chosen under masks lengths vs valid (nullability_of t) w.0.validity)
        (ap (list_all (fits t)) own ∙ all_rows t (rows (var_bin_view vs valid t)) (rows_fit (var_bin_view vs valid t) w)));
    column = λ i. column (e i) (all i);
  }
    where
      own : valid_rows (kept (kept (option_map of_bits valid))) (map bytes (items vs)) ≡ chosen (rows (var_bin_view vs valid t))
      own = leaf_rows bytes items of_bits chosen under masks lengths vs valid (nullability_of t) w.0.validity

      all : valid_rows (kept bits) (map bytes ys) ≡ chosen (rows (var_bin_view vs valid t))
      all = rw (y, b) own
