-- A row of any type, by the values within.
use Rattle.std.proofs.Common.{◌≡◌, ℕ, suc, List, [], ◌∷◌, ◌++◌, length, Bool, true, false, cond, Option, Some, None, option_map, refl, sym, ap, ◌∙◌}
use Rattle.std.specs.Prelude.{◌&&◌, ◌==◌, is_some}
use Rattle.std.proofs.lemmas.Bool.{eq-eqb, ne_eqb}
use Rattle.serde_json.specs.Data as json
use Rattle.serde_json.specs.Data.{Data, Items, no_items, item}
use Rattle.serde_json.specs.Events.{items_len}
use Rattle.serde_json.specs.Find.{as_null, as_array}
use Rattle.serde_json.specs.View.{view, items_view}
use Rattle.serde_json.specs.declared.value.Value.{Value}
use Rattle.serde_json.proofs.Views.{items_len-items_view}
use Rattle.vx_base.specs.declared.dtype.Nullability.{Nullability}
use Rattle.vx_base.specs.declared.dtype.Nullability.TheVariants.{NonNullable}
use Rattle.vx_base.specs.declared.ptype.PType.{PType}
use Rattle.vx_base.specs.declared.ptype.PType.TheVariants.{I64}
use Rattle.vx_base.specs.PlainScalar.{fits, fields_fit, items_fit}
use Rattle.vx_base.specs.PlainType.{PlainType, null_type, boolean, primitive, utf8, binary, timestamp, structure, list, fixed_size_list, of_fields, is_nullable}
use Rattle.vx_base.specs.PlainValue.{PlainValue, PlainValues, null, truth, int, bytes}
use Rattle.vx_base.specs.PlainValue as vals
use Rattle.vx_base.specs.Timestamps.{PlainTimestamp}
use Rattle.vx_model.specs.Rows.{list_value}
use Rattle.vx_document.specs.Reading.{◌>>=◌, when, all_by}
use Rattle.vx_document.specs.RowsOf.{cell_of, field_cells, item_cells, row_of, field_rows, struct_row, list_row, fixed_list_row}
use Rattle.vx_document.proofs.DocumentRows.{fitting, null-row, row-some}

-- ---- null

is-null : (d : Data) → is_some (as_null d) ≡ true → d ≡ json.null
is-null json.null e = refl
is-null d e = absurd cc

-- null is a row of nullable types alone
pub row_of-null : (t : PlainType) (b : Bool) → is_nullable t ≡ b → row_of t json.null ≡ cond b (Some null) None
unfolding row_of
row_of-null t b e = null-row t b e

pub row_of-is_null : (t : PlainType) (d : Data) → is_some (as_null d) ≡ true → row_of t d ≡ row_of t json.null
row_of-is_null t d e = ap (row_of t) (is-null d e)

-- ---- flat rows that aren't null

same_fitting : (k : PlainTimestamp) (n : Nullability) (v : PlainValue) → fits (timestamp k n) v ≡ fits (primitive I64 n) v
same_fitting k n null = refl
same_fitting k n (truth b) = refl
same_fitting k n (int z) = refl
same_fitting k n (bytes bs) = refl
same_fitting k n (vals.items vs) = refl

same_cell : (k : PlainTimestamp) (n : Nullability) (d : Data) → cell_of (timestamp k n) d ≡ cell_of (primitive I64 n) d
same_cell k n json.null = refl
same_cell k n (json.boolean b) = refl
same_cell k n (json.number x) = refl
same_cell k n (json.string s) = refl
same_cell k n (json.array ds) = refl
same_cell k n (json.object ms) = refl

-- a timestamp is read as its whole number
pub row-stamp : (k : PlainTimestamp) (n : Nullability) (d : Data) → row_of (timestamp k n) d ≡ row_of (primitive I64 n) d
unfolding row_of
row-stamp k n d = λ i. same_cell k n d i >>= (λ v. when (same_fitting k n v i) >>= (λ u. Some v))

module _ (d : Data) (some : is_some (as_null d) ≡ false) where
  pub row-null_type : row_of null_type d ≡ None
  unfolding row_of
  row-null_type = by_data d some
    where
      by_data : (e : Data) → is_some (as_null e) ≡ false → fitting null_type (cell_of null_type e) ≡ None
      by_data json.null h = absurd cc
      by_data (json.boolean b) h = refl
      by_data (json.number x) h = refl
      by_data (json.string s) h = refl
      by_data (json.array ds) h = refl
      by_data (json.object ms) h = refl

  pub row-boolean : (n : Nullability) → row_of (boolean n) d ≡ row_of (boolean NonNullable) d
  row-boolean n = row-some (boolean NonNullable) n d refl (λ e. absurd cc)

  pub row-primitive : (p : PType) (n : Nullability) → row_of (primitive p n) d ≡ row_of (primitive p NonNullable) d
  row-primitive p n = row-some (primitive p NonNullable) n d refl (λ e. absurd cc)

  pub row-utf8 : (n : Nullability) → row_of (utf8 n) d ≡ row_of (utf8 NonNullable) d
  row-utf8 n = row-some (utf8 NonNullable) n d refl (λ e. absurd cc)

  pub row-binary : (n : Nullability) → row_of (binary n) d ≡ row_of (binary NonNullable) d
  row-binary n = row-some (binary NonNullable) n d refl (λ e. absurd cc)

  pub row-timestamp : (k : PlainTimestamp) (n : Nullability) → row_of (timestamp k n) d ≡ row_of (primitive I64 NonNullable) d
  row-timestamp k n = row-stamp k n d ∙ row-primitive I64 n

-- ---- values within that fit

-- a value that is read and fits
abbrev fitting_within : (PlainValues → Bool) → Option PlainValues → Option PlainValues
fitting_within fit o = o >>= (λ vs. when (fit vs) >>= (λ u. Some vs))

fitting-items : (t : PlainType) (fit : PlainValues → Bool) → ((vs : PlainValues) → fits t (vals.items vs) ≡ fit vs) → (o : Option PlainValues)
    → fitting t (option_map vals.items o) ≡ option_map vals.items (fitting_within fit o)
fitting-items t fit e None = refl
fitting-items t fit e (Some vs) = rw (e vs) (by_fit (fit vs))
  where
    by_fit : (b : Bool) → (when b >>= (λ u. Some (vals.items vs))) ≡ option_map vals.items (when b >>= (λ u. Some vs))
    by_fit true = refl
    by_fit false = refl

when-none : (b : Bool) (o : Option PlainValues) → o ≡ None → (when b >>= (λ u. o)) ≡ None
when-none true o e = e
when-none false o e = refl

when-and : (b c : Bool) (v : PlainValue) (vs : PlainValues) → (when (b && c) >>= (λ u. Some (vals.more v vs))) ≡ (when b >>= (λ u. option_map (vals.more v) (when c >>= (λ w. Some vs))))
when-and true true v vs = refl
when-and true false v vs = refl
when-and false c v vs = refl

-- in a list, a first value that fits and the others
as-list : (b : Bool) (v : PlainValue) (o : Option (List PlainValue))
    → (when b >>= (λ u. option_map (vals.more v) (option_map vals.of_list o))) ≡ option_map vals.of_list (when b >>= (λ u. Some v) >>= (λ w. option_map (λ vs. w ∷ vs) o))
as-list true v None = refl
as-list true v (Some vs) = refl
as-list false v o = refl

module _ (whole : PlainValues → Bool) (first_fits : PlainValue → Bool) (rest_fit : PlainValues → Bool) (e : (v : PlainValue) (vs : PlainValues) → whole (vals.more v vs) ≡ (first_fits v && rest_fit vs)) where
  fitting-more : (v : PlainValue) (rest : Option PlainValues) → fitting_within whole (option_map (vals.more v) rest) ≡ (when (first_fits v) >>= (λ u. option_map (vals.more v) (fitting_within rest_fit rest)))
  fitting-more v None = sym (when-none (first_fits v) None refl)
  fitting-more v (Some vs) = rw (e v vs) (when-and (first_fits v) (rest_fit vs) v vs)

  -- the first is read, and the others are in a list
  fitting-next : (first : Option PlainValue) (rest : Option PlainValues) (others : Option (List PlainValue)) → fitting_within rest_fit rest ≡ option_map vals.of_list others
      → fitting_within whole (first >>= (λ v. option_map (vals.more v) rest)) ≡ option_map vals.of_list (first >>= (λ v. when (first_fits v) >>= (λ u. Some v)) >>= (λ v. option_map (λ vs. v ∷ vs) others))
  fitting-next None rest others h = refl
  fitting-next (Some v) rest others h =
      fitting-more v rest ∙ ap (λ o. when (first_fits v) >>= (λ u. option_map (vals.more v) o)) h ∙ as-list (first_fits v) v others

fields-within : (fs : List (List ℕ × PlainType)) (ds : Items) → fitting_within (fields_fit (of_fields fs)) (field_cells (of_fields fs) ds) ≡ option_map vals.of_list (field_rows fs ds)
unfolding row_of
fields-within [] no_items = refl
fields-within [] (item d ds) = refl
fields-within (f ∷ fs) no_items = refl
fields-within (f ∷ fs) (item d ds) =
    fitting-next (fields_fit (of_fields (f ∷ fs))) (fits f.1) (fields_fit (of_fields fs)) (λ v vs. refl) (cell_of f.1 d) (field_cells (of_fields fs) ds) (field_rows fs ds) (fields-within fs ds)

items-within : (t : PlainType) (ds : Items) → fitting_within (items_fit t) (item_cells t ds) ≡ option_map vals.of_list (all_by (row_of t) ds)
unfolding row_of
items-within t no_items = refl
items-within t (item d ds) = fitting-next (items_fit t) (fits t) (items_fit t) (λ v vs. refl) (cell_of t d) (item_cells t ds) (all_by (row_of t) ds) (items-within t ds)

-- ---- structs and lists

as_value : (o : Option (List PlainValue)) → option_map vals.items (option_map vals.of_list o) ≡ option_map list_value o
as_value None = refl
as_value (Some vs) = refl

array-structure : (fs : List (List ℕ × PlainType)) (n : Nullability) (ds : Items) → fitting (structure (of_fields fs) n) (option_map vals.items (field_cells (of_fields fs) ds)) ≡ option_map list_value (field_rows fs ds)
array-structure fs n ds =
    fitting-items (structure (of_fields fs) n) (fields_fit (of_fields fs)) (λ vs. refl) (field_cells (of_fields fs) ds) ∙ ap (option_map vals.items) (fields-within fs ds) ∙ as_value (field_rows fs ds)

pub row-structure : (d : Data) → is_some (as_null d) ≡ false → (fs : List (List ℕ × PlainType)) (n : Nullability) → row_of (structure (of_fields fs) n) d ≡ struct_row fs d
unfolding row_of
row-structure json.null some fs n = absurd cc
row-structure (json.boolean b) some fs n = refl
row-structure (json.number x) some fs n = refl
row-structure (json.string s) some fs n = refl
row-structure (json.array ds) some fs n = array-structure fs n ds
row-structure (json.object ms) some fs n = refl

array-list : (t : PlainType) (n : Nullability) (ds : Items) → fitting (list t n) (option_map vals.items (item_cells t ds)) ≡ option_map list_value (all_by (row_of t) ds)
array-list t n ds = fitting-items (list t n) (items_fit t) (λ vs. refl) (item_cells t ds) ∙ ap (option_map vals.items) (items-within t ds) ∙ as_value (all_by (row_of t) ds)

pub row-list : (d : Data) → is_some (as_null d) ≡ false → (t : PlainType) (n : Nullability) → row_of (list t n) d ≡ list_row t d
unfolding row_of
row-list json.null some t n = absurd cc
row-list (json.boolean b) some t n = refl
row-list (json.number x) some t n = refl
row-list (json.string s) some t n = refl
row-list (json.array ds) some t n = array-list t n ds
row-list (json.object ms) some t n = refl

-- ---- fixed-size lists

-- reading keeps the number of values
length-next : (first : Option PlainValue) (rest : Option PlainValues) (vs : PlainValues) (len : ℕ) → ((ws : PlainValues) → rest ≡ Some ws → length (vals.list_of ws) ≡ len) → (first >>= (λ v. option_map (vals.more v) rest)) ≡ Some vs
    → length (vals.list_of vs) ≡ suc len
length-next None rest vs len h e = absurd cc
length-next (Some v) None vs len h e = absurd cc
length-next (Some v) (Some ws) vs len h e = let is : vals.more v ws ≡ vs = cc in rw (← is) (ap suc (h ws refl))

length-item_cells : (t : PlainType) (ds : Items) (vs : PlainValues) → item_cells t ds ≡ Some vs → length (vals.list_of vs) ≡ items_len ds
length-item_cells t no_items vs e = let is : vals.none ≡ vs = cc in rw (← is) refl
length-item_cells t (item d ds) vs e = length-next (cell_of t d) (item_cells t ds) vs (items_len ds) (length-item_cells t ds) e

sized-within : (size len : ℕ) (fit : PlainValues → Bool) (o : Option PlainValues) → ((vs : PlainValues) → o ≡ Some vs → length (vals.list_of vs) ≡ len)
    → fitting_within (λ vs. (length (vals.list_of vs) == size) && fit vs) o ≡ (when (len == size) >>= (λ u. fitting_within fit o))
sized-within size len fit None h = sym (when-none (len == size) None refl)
sized-within size len fit (Some vs) h = rw (h vs refl) (by_size (len == size) (fit vs))
  where
    by_size : (b c : Bool) → (when (b && c) >>= (λ u. Some vs)) ≡ (when b >>= (λ u. when c >>= (λ w. Some vs)))
    by_size true c = refl
    by_size false c = refl

when-value : (b : Bool) (o : Option (List PlainValue)) → option_map vals.items (when b >>= (λ u. option_map vals.of_list o)) ≡ (when b >>= (λ u. option_map list_value o))
when-value true o = as_value o
when-value false o = refl

array-fixed : (t : PlainType) (size : ℕ) (n : Nullability) (ds : Items)
    → fitting (fixed_size_list t size n) (option_map vals.items (item_cells t ds)) ≡ (when (items_len ds == size) >>= (λ u. option_map list_value (all_by (row_of t) ds)))
array-fixed t size n ds =
    fitting-items (fixed_size_list t size n) (λ vs. (length (vals.list_of vs) == size) && items_fit t vs) (λ vs. refl) (item_cells t ds)
    ∙ ap (option_map vals.items) (sized-within size (items_len ds) (items_fit t) (item_cells t ds) (length-item_cells t ds))
    ∙ ap (λ o. option_map vals.items (when (items_len ds == size) >>= (λ u. o))) (items-within t ds) ∙ when-value (items_len ds == size) (all_by (row_of t) ds)

pub row-fixed_list : (d : Data) → is_some (as_null d) ≡ false → (t : PlainType) (size : ℕ) (n : Nullability) → row_of (fixed_size_list t size n) d ≡ fixed_list_row t size d
unfolding row_of
row-fixed_list json.null some t size n = absurd cc
row-fixed_list (json.boolean b) some t size n = refl
row-fixed_list (json.number x) some t size n = refl
row-fixed_list (json.string s) some t size n = refl
row-fixed_list (json.array ds) some t size n = array-fixed t size n ds
row-fixed_list (json.object ms) some t size n = refl

-- ---- a row for each field, one at a time

-- the rows so far, and then those of the fields that are left
abbrev pub fields_left : List (List ℕ × PlainType) → List PlainValue → List Value → Option (List PlainValue)
fields_left fs done vs = option_map (λ xs. done ++ xs) (field_rows fs (items_view vs))

bind-none : {A : Type 0} (o : Option A) (rest : A → Option (List PlainValue)) → ((x : A) → rest x ≡ None) → (o >>= rest) ≡ None
bind-none None rest h = refl
bind-none (Some x) rest h = h x

-- a list with other than one value for each field is no row
pub field_rows-other : (fs : List (List ℕ × PlainType)) (vs : List Value) → (length vs ≡ length fs → ⊥) → field_rows fs (items_view vs) ≡ None
field_rows-other [] [] h = absurd (h refl)
field_rows-other [] (v ∷ vs) h = refl
field_rows-other (f ∷ fs) [] h = refl
field_rows-other (f ∷ fs) (v ∷ vs) h = bind-none (row_of f.1 (view v)) _ (λ v. ap (option_map (λ ws. v ∷ ws)) (field_rows-other fs vs (λ e. h (ap suc e))))

-- ---- a fixed-size list, as the code reads it

module _ (t : PlainType) (size : ℕ) (d : Data) (vs : List Value) (e : as_array d ≡ Some (items_view vs)) where
  by_size : fixed_list_row t size d ≡ (when (length vs == size) >>= (λ u. option_map list_value (all_by (row_of t) (items_view vs))))
  by_size = rw (e, items_len-items_view vs) refl

  pub fixed-other : (length vs ≡ size → ⊥) → fixed_list_row t size d ≡ None
  fixed-other h = rw (ne_eqb (length vs) size h) at by_size

  pub fixed-sized : length vs ≡ size → fixed_list_row t size d ≡ option_map list_value (all_by (row_of t) (items_view vs))
  fixed-sized h = rw (eq-eqb (length vs) size h) at by_size
