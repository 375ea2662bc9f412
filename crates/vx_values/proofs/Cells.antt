-- Rows of a list of integers of any type and their validity.
use Rattle.std.proofs.Common.{◌≡◌, ◌<◌, ◌≤◌, ◌∙◌, take, ℕ, zero, suc, ℤ, pos, List, [], ◌∷◌, ◌++◌, map, length, Bool, true, false, cond, Some, None, ap, sym, refl, arith}
use Rattle.std.proofs.lemmas.List.{get_or-map, length-map, map-append, take_all}
use Rattle.std.proofs.lemmas.List.Folds.{list_any-append}
use Rattle.std.specs.Prelude.{slice_get, slice_index_or, ◌||◌}
use Rattle.std.specs.List.{list_all, list_any}
use Rattle.std.proofs.lemmas.Bool.{and_parts, eqb-true}
use Rattle.vx_base.specs.PlainValue.{PlainValue, int, null, is_null, same_value, stored_value}
use Rattle.vx_base.specs.Storable.{same_from}
use Rattle.vx_model.specs.Leaf.{null_or, each_null_or}
use Rattle.vx_model.specs.Tree.{Validity}
use Rattle.vx_model.specs.Refusals.{validity_length}
use Rattle.vx_model.specs.Rows.{row_at, valid_rows, is_valid_at}
use Rattle.vx_model.proofs.RowLemmas.{row_at-cells, length-cells, length-masked_rows, row_at-masked_rows}

module _ {T : Type 0} (whole : T → ℤ) (items : List T) (valid : Validity) (fit : validity_length valid (length items) ≡ true) where
  fit_wholes : validity_length valid (length (map whole items)) ≡ true
  fit_wholes = rw length-map fit

  pub length-rows_of : length (valid_rows valid (map int (map whole items))) ≡ length items
  length-rows_of = length-cells valid (map whole items) fit_wholes ∙ length-map items whole

  whole_in : (i : ℕ) (x : T) → i < length items → x ≡ slice_index_or items i x → slice_index_or (map whole items) i (pos 0) ≡ whole x
  whole_in i x h e = get_or-map whole items i x (pos 0) h ∙ ap whole (sym e)

  within : (i : ℕ) → i < length items → i < length (map whole items)
  within i h = omega (arith, h, length-map items whole)

  pub row_of-valid : (i : ℕ) (x : T) (z : ℤ) → i < length items → x ≡ slice_index_or items i x → z ≡ whole x → is_valid_at valid i ≡ true → int z ≡ row_at (valid_rows valid (map int (map whole items))) i
  row_of-valid i x z h e w v = rw (row_at-cells valid (map whole items) i fit_wholes (within i h), v) (ap int (w ∙ sym (whole_in i x h e)))

  pub row_of-null : (i : ℕ) → i < length items → is_valid_at valid i ≡ false → null ≡ row_at (valid_rows valid (map int (map whole items))) i
  row_of-null i h v = rw (row_at-cells valid (map whole items) i fit_wholes (within i h), v) refl

-- ---- items of any kind

of_bits : (valid : Validity) (rows : List PlainValue) (i : ℕ) → validity_length valid (length rows) ≡ true → row_at (valid_rows valid rows) i ≡ cond (is_valid_at valid i) (row_at rows i) null
of_bits None rows i h = refl
of_bits (Some bits) rows i h = row_at-masked_rows bits rows i (eqb-true (length bits) (length rows) h)

length-of_bits : (valid : Validity) (rows : List PlainValue) → validity_length valid (length rows) ≡ true → length (valid_rows valid rows) ≡ length rows
length-of_bits None rows h = refl
length-of_bits (Some bits) rows h = length-masked_rows bits rows (eqb-true (length bits) (length rows) h)

pub length-flat_rows : {T : Type 0} (value : T → PlainValue) (items : List T) (valid : Validity) → validity_length valid (length items) ≡ true → length (valid_rows valid (map value items)) ≡ length items
length-flat_rows value items valid fit = length-of_bits valid (map value items) (rw length-map fit) ∙ length-map items value

pub row_at-flat_rows : {T : Type 0} (value : T → PlainValue) (items : List T) (valid : Validity) (i : ℕ) (default : T) → validity_length valid (length items) ≡ true → i < length items
    → row_at (valid_rows valid (map value items)) i ≡ cond (is_valid_at valid i) (value (slice_index_or items i default)) null
row_at-flat_rows value items valid i default fit h = of_bits valid (map value items) i (rw length-map fit) ∙ ap (λ r. cond (is_valid_at valid i) r null) (get_or-map value items i default null h)

pub row_at-valid : {T : Type 0} (value : T → PlainValue) (items : List T) (valid : Validity) (i : ℕ) (default : T) → validity_length valid (length items) ≡ true → i < length items
    → is_valid_at valid i ≡ true → row_at (valid_rows valid (map value items)) i ≡ value (slice_index_or items i default)
row_at-valid value items valid i default fit h v = row_at-flat_rows value items valid i default fit h ∙ ap (λ b. cond b (value (slice_index_or items i default)) null) v

pub row_at-null : {T : Type 0} (value : T → PlainValue) (items : List T) (valid : Validity) (i : ℕ) (default : T) → validity_length valid (length items) ≡ true → i < length items
    → is_valid_at valid i ≡ false → row_at (valid_rows valid (map value items)) i ≡ null
row_at-null value items valid i default fit h v = row_at-flat_rows value items valid i default fit h ∙ ap (λ b. cond b (value (slice_index_or items i default)) null) v

-- a row is null or a value where it equals either
pub null_or-null : (row v : PlainValue) → row ≡ null → true ≡ null_or v row
null_or-null row v e = sym (ap (null_or v) e)

pub null_or-some : (row v w : PlainValue) (b : Bool) → row ≡ w → is_null w ≡ false → (b ≡ true → w ≡ v) → (w ≡ v → b ≡ true) → b ≡ null_or v row
null_or-some row v w b e some there back =
    same_from stored_value w v b there back ∙ ap (λ null. null || same_value w v) (sym some) ∙ ap (null_or v) (sym e)

-- each row so far, and each row at the end
pub each-all : (v : PlainValue) (rows : List PlainValue) (i : ℕ) → length rows ≤ i → each_null_or v (take i rows) ≡ true → true ≡ each_null_or v rows
each-all v rows i l h = sym h ∙ ap (each_null_or v) (take_all i rows l)

-- out of bounds
pub index_or-none : {A : Type 0} (xs : List A) (i : ℕ) (other : A) → slice_get xs i ≡ None → slice_index_or xs i other ≡ other
index_or-none [] i other h = refl
index_or-none (x ∷ xs) zero other h = absurd cc
index_or-none (x ∷ xs) (suc i) other h = index_or-none xs i other h

-- ---- tests of the whole numbers, by the item at a place

or_right : (b c : Bool) → c ≡ true → (b || c) ≡ true
or_right true c e = refl
or_right false c e = e

pub any_whole : {T : Type 0} (whole : T → ℤ) (p : ℤ → Bool) (items : List T) (i : ℕ) (x : T) → i < length items → x ≡ slice_index_or items i x → p (whole x) ≡ true → list_any p (map whole items) ≡ true
any_whole whole p [] i x h e t = absurd (omega arith)
any_whole whole p (y ∷ ys) zero x h e t = let y_passes : p (whole y) ≡ true = ap (λ w. p (whole w)) (sym e) ∙ t in rw y_passes refl
any_whole whole p (y ∷ ys) (suc i) x h e t = or_right (p (whole y)) _ (any_whole whole p ys i x (omega arith) e t)

-- whether some row passes, by the first rows and those behind them
pub any-parts : {T : Type 0} (whole : T → ℤ) (p : ℤ → Bool) (items part behind : List T) (b : Bool) → items ≡ part ++ behind → list_any p (map whole part) ≡ b → list_any p (map whole items) ≡ (b || list_any p (map whole behind))
any-parts whole p items part behind b e h =
    ap (λ xs. list_any p (map whole xs)) e ∙ ap (list_any p) (map-append whole part behind) ∙ list_any-append p (map whole part) (map whole behind) ∙ ap (λ c. c || list_any p (map whole behind)) h

pub each_whole : {T : Type 0} (whole : T → ℤ) (p : ℤ → Bool) (items : List T) (i : ℕ) (x : T) → i < length items → x ≡ slice_index_or items i x → list_all p (map whole items) ≡ true → p (whole x) ≡ true
each_whole whole p [] i x h e t = absurd (omega arith)
each_whole whole p (y ∷ ys) zero x h e t = ap (λ w. p (whole w)) e ∙ (and_parts _ _ t).0
each_whole whole p (y ∷ ys) (suc i) x h e t = each_whole whole p ys i x (omega arith) e (and_parts _ _ t).1
