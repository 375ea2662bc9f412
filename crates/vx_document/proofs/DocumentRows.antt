-- A document's rows as items and a validity, one row at a time.
use Rattle.std.proofs.Common.{◌≡◌, ℕ, List, [], ◌∷◌, ◌++◌, length, map, Bool, true, false, cond, Option, Some, None, option_map, refl, sym, ap, ◌∙◌}
use Rattle.std.specs.Prelude.{Vec, ◌&&◌, not, is_some, unwrap_or, Result, Ok, Err}
use Rattle.std.specs.Str.{is_utf8}
use Rattle.std.specs.declared.alloc.Global.{Global}
use Rattle.std.proofs.lemmas.List.{map-append}
use Rattle.serde_json.specs.Data as json
use Rattle.serde_json.specs.Data.{Data, Items}
use Rattle.serde_json.specs.Find.{as_null, as_bool, as_str}
use Rattle.serde_json.specs.View.{view, items_view}
use Rattle.serde_json.specs.declared.value.Value.{Value}
use Rattle.vx_base.specs.declared.dtype.Nullability.{Nullability}
use Rattle.vx_base.specs.declared.dtype.Nullability.TheVariants.{NonNullable, Nullable}
use Rattle.vx_base.specs.Defaults.{or_default}
use Rattle.vx_base.specs.PlainScalar.{fits}
use Rattle.vx_base.specs.PlainType.{PlainType, null_type, boolean, primitive, utf8, binary, timestamp, structure, list, fixed_size_list, allows_null, nullability_of, with_nullability}
use Rattle.vx_base.specs.PlainValue.{PlainValue, null, truth, int, bytes, is_null, is_short}
use Rattle.vx_base.specs.PlainValue as vals
use Rattle.vx_base.proofs.TypeLemmas.{fits-with, is_nullable-with}
use Rattle.vx_model.specs.Tree.{Validity}
use Rattle.vx_document.specs.declared.document.unread.Unread.{Unread}
use Rattle.vx_document.specs.declared.document.unread.Unread.TheVariants.{NoMemory, BadDocument}
use Rattle.vx_document.specs.Reading.{◌>>=◌, when, all_by, Gives}
use Rattle.vx_document.specs.RowsOf.{AreReadRows, bits_of, bytes_of_digits, cell_of, field_cells, item_cells, row_of, some_of, whole_of}
use Rattle.vx_document.proofs.Documents.{with_left, with_left_first, with_left_more, with_left_none, with_left_last}

-- ---- a row, by whether it is null

-- a value that is read and fits
abbrev pub fitting : PlainType → Option PlainValue → Option PlainValue
fitting t o = o >>= (λ v. when (fits t v) >>= (λ u. Some v))

-- a value that isn't null fits a type whatever its nullability
fitting-some : {A : Type 0} (value : A → PlainValue) → ((x : A) → is_null (value x) ≡ false) → (t : PlainType) (n : Nullability) (o : Option A) → fitting (with_nullability t n) (option_map value o) ≡ fitting t (option_map value o)
fitting-some value some t n None = refl
fitting-some value some t n (Some x) = ap (λ b. when b >>= (λ u. Some (value x))) (fits-with t n (value x) (some x))

some-row : (t : PlainType) (n : Nullability) (d : Data) → fitting (with_nullability t n) (some_of (with_nullability t n) d) ≡ fitting t (some_of t d)
some-row (boolean m) n d = fitting-some truth (λ b. refl) (boolean m) n (as_bool d)
some-row (primitive p m) n d = fitting-some int (λ z. refl) (primitive p m) n (whole_of d)
some-row (utf8 m) n d = fitting-some bytes (λ bs. refl) (utf8 m) n (as_str d)
some-row (binary m) n d = fitting-some bytes (λ bs. refl) (binary m) n (as_str d >>= bytes_of_digits)
some-row (timestamp k m) n d = fitting-some int (λ z. refl) (timestamp k m) n (whole_of d)
some-row null_type n d = refl
some-row (structure fs m) n d = refl
some-row (list t m) n d = refl
some-row (fixed_size_list t size m) n d = refl

array-row : (t : PlainType) (n : Nullability) (ds : Items) → fitting (with_nullability t n) (cell_of (with_nullability t n) (json.array ds)) ≡ fitting t (cell_of t (json.array ds))
array-row (boolean m) n ds = refl
array-row (primitive p m) n ds = refl
array-row (utf8 m) n ds = refl
array-row (binary m) n ds = refl
array-row (timestamp k m) n ds = refl
array-row null_type n ds = refl
array-row (structure fs m) n ds = fitting-some vals.items (λ vs. refl) (structure fs m) n (field_cells fs ds)
array-row (list t m) n ds = fitting-some vals.items (λ vs. refl) (list t m) n (item_cells t ds)
array-row (fixed_size_list t size m) n ds = fitting-some vals.items (λ vs. refl) (fixed_size_list t size m) n (item_cells t ds)

-- only the type of nulls has one nullability
nullability-with : (t : PlainType) (n : Nullability) → nullability_of t ≡ NonNullable → nullability_of (with_nullability t n) ≡ n
nullability-with null_type n e = absurd cc
nullability-with (boolean m) n e = refl
nullability-with (primitive p m) n e = refl
nullability-with (utf8 m) n e = refl
nullability-with (binary m) n e = refl
nullability-with (timestamp k m) n e = refl
nullability-with (structure fs m) n e = refl
nullability-with (list t m) n e = refl
nullability-with (fixed_size_list t size m) n e = refl

pub null-row : (t : PlainType) (b : Bool) → allows_null (nullability_of t) ≡ b → fitting t (Some null) ≡ cond b (Some null) None
null-row t true e = rw e refl
null-row t false e = rw e refl

-- null is a row of nullable types
pub row-null : (t : PlainType) (n : Nullability) (d : Data) → is_some (as_null d) ≡ true → allows_null n ≡ true → row_of (with_nullability t n) d ≡ Some null
unfolding row_of
row-null t n json.null e f = null-row (with_nullability t n) true (is_nullable-with t n f)
row-null t n d e f = absurd cc

both_none : (t : PlainType) (n : Nullability) → nullability_of t ≡ NonNullable → allows_null n ≡ false → fitting (with_nullability t n) (Some null) ≡ fitting t (Some null)
both_none t n e f = null-row (with_nullability t n) false (ap allows_null (nullability-with t n e) ∙ f) ∙ sym (null-row t false (ap allows_null e))

-- what isn't one is a row of the type without nulls, or none
pub row-some : (t : PlainType) (n : Nullability) (d : Data) → nullability_of t ≡ NonNullable → (is_some (as_null d) ≡ true → allows_null n ≡ false) → row_of (with_nullability t n) d ≡ row_of t d
unfolding row_of
row-some t n json.null e f = both_none t n e (f refl)
row-some t n (json.boolean b) e f = some-row t n (json.boolean b)
row-some t n (json.number x) e f = some-row t n (json.number x)
row-some t n (json.string s) e f = some-row t n (json.string s)
row-some t n (json.array ds) e f = array-row t n ds
row-some t n (json.object ms) e f = refl

-- a text of few bytes is a row
pub text-row : (text : List ℕ) (r : Result (List ℕ) Unread) → is_utf8 text ≡ true → Gives (λ (bs : List ℕ). bs) r (option_map (λ u. text) (when (is_short text))) → Gives bytes r (row_of (utf8 NonNullable) (json.string text))
unfolding row_of
text-row text r e h = rw e (of_short (is_short text) r h)
  where
    of_short : (short : Bool) (s : Result (List ℕ) Unread) → Gives (λ (bs : List ℕ). bs) s (option_map (λ u. text) (when short)) → Gives bytes s (when (short && true) >>= (λ u. Some (bytes text)))
    of_short true (Ok bs) k = cc
    of_short true (Err NoMemory) k = tt
    of_short true (Err BadDocument) k = absurd cc
    of_short false (Ok bs) k = absurd cc
    of_short false (Err NoMemory) k = tt
    of_short false (Err BadDocument) k = refl

-- ---- one row more

-- one truth value more, where there are any
abbrev with_bit : Bool → Validity → Validity
with_bit b valid = option_map (λ bits. bits ++ b ∷ []) valid

bits_of-push : (n : Nullability) (values : List PlainValue) (x : PlainValue) → bits_of n (values ++ x ∷ []) ≡ with_bit (not (is_null x)) (bits_of n values)
bits_of-push NonNullable values x = refl
bits_of-push Nullable values x = ap Some (map-append (λ v. not (is_null v)) values (x ∷ []))

AreReadRows-push : (default : PlainValue) (n : Nullability) (items : List PlainValue) (valid : Validity) (values : List PlainValue) (x : PlainValue) → AreReadRows default n items valid values
    → AreReadRows default n (items ++ or_default default x ∷ []) (with_bit (not (is_null x)) valid) (values ++ x ∷ [])
AreReadRows-push default n items valid values x h =
    (ap (λ vs. vs ++ or_default default x ∷ []) h.0 ∙ sym (map-append (or_default default) values (x ∷ [])), ap (with_bit (not (is_null x))) h.1 ∙ sym (bits_of-push n values x))

-- the value of a row, null where there is no item
abbrev pub row_value : {T : Type 0} → (T → PlainValue) → Option T → PlainValue
row_value seen row = unwrap_or (option_map seen row) null

valid-row : {T : Type 0} (seen : T → PlainValue) → ((x : T) → is_null (seen x) ≡ false) → (row : Option T) → not (is_null (row_value seen row)) ≡ is_some row
valid-row seen some None = refl
valid-row seen some (Some x) = ap not (some x)

pub default-some : (default v : PlainValue) → is_null v ≡ false → v ≡ or_default default v
default-some default v e = rw e refl

-- the truth values of a vector, where there is one
abbrev pub bits_in : Option (Vec Bool Global) → Validity
bits_in valid = option_map (λ (v : Vec Bool Global). v.items) valid

items-with_bit : (b : Bool) (valid : Option (Vec Bool Global)) → option_map (λ (v : Vec Bool Global). v.items ++ b ∷ []) valid ≡ with_bit b (bits_in valid)
items-with_bit b None = refl
items-with_bit b (Some v) = refl

module _ (f : Data → Option PlainValue) (default : PlainValue) (n : Nullability) where
  -- the rows so far are these items and truth values, and with those that are left they are all
  abbrev pub SoFar : List Value → List PlainValue → Validity → List Value → Type 0
  SoFar all items valid vs = (values : List PlainValue) × (with_left f values vs ≡ all_by f (items_view all)) × AreReadRows default n items valid values

  pub so_far_first : (vs : List Value) → SoFar vs [] (bits_of n []) vs
  so_far_first vs = ([], with_left_first f vs, (refl, refl))

  so_far_more : (all : List Value) (items : List PlainValue) (valid : Validity) (vs ws : List Value) (v : Value) (x : PlainValue) → vs ≡ v ∷ ws → f (view v) ≡ Some x → SoFar all items valid vs
      → SoFar all (items ++ or_default default x ∷ []) (with_bit (not (is_null x)) valid) ws
  so_far_more all items valid vs ws v x is fe h =
      (h.0 ++ x ∷ [], sym (with_left_more f h.0 vs ws v x is fe) ∙ h.1, AreReadRows-push default n items valid h.0 x h.2)

  -- the same as the code has it, over the lists that a row is pushed to
  pub so_far_row : {T : Type 0} (seen : T → PlainValue) → ((x : T) → is_null (seen x) ≡ false) → (all : List Value) (old new : List T) (item : T) (row : Option T) (bit : Bool) (before after : Option (Vec Bool Global)) (vs ws : List Value) (v : Value)
      → vs ≡ v ∷ ws → f (view v) ≡ Some (row_value seen row) → seen item ≡ or_default default (row_value seen row) → new ≡ old ++ item ∷ []
      → bit ≡ is_some row → bits_in after ≡ option_map (λ (w : Vec Bool Global). w.items ++ bit ∷ []) before → SoFar all (map seen old) (bits_in before) vs → SoFar all (map seen new) (bits_in after) ws
  so_far_row seen some all old new item row bit before after vs ws v is fe item_is new_is bit_is after_is h =
      let items_are : map seen new ≡ map seen old ++ or_default default (row_value seen row) ∷ [] =
      ap (map seen) new_is ∙ map-append seen old (item ∷ []) ∙ ap (λ w. map seen old ++ w ∷ []) item_is in
      let bits_are : bits_in after ≡ with_bit (not (is_null (row_value seen row))) (bits_in before) =
      after_is ∙ items-with_bit bit before ∙ ap (λ b. with_bit b (bits_in before)) (bit_is ∙ sym (valid-row seen some row)) in
      rw (items_are, bits_are) (so_far_more all (map seen old) (bits_in before) vs ws v (row_value seen row) is fe h)

  pub so_far_none : (all : List Value) (items : List PlainValue) (valid : Validity) (vs ws : List Value) (v : Value) → vs ≡ v ∷ ws → f (view v) ≡ None → SoFar all items valid vs → all_by f (items_view all) ≡ None
  so_far_none all items valid vs ws v is fe h = sym h.1 ∙ with_left_none f h.0 vs ws v is fe

  pub so_far_last : (all : List Value) (items : List PlainValue) (valid : Validity) (vs : List Value) → length vs ≡ 0 → SoFar all items valid vs → (values : List PlainValue) × (all_by f (items_view all) ≡ Some values) × AreReadRows default n items valid values
  so_far_last all items valid vs past h = (h.0, sym h.1 ∙ with_left_last f h.0 vs past, h.2)
