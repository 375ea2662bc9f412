-- A document's type, one member or field at a time, and what reading it ends by.
use Rattle.std.proofs.Common.{◌≡◌, ◌≤◌, ◌+◌, ℕ, List, [], ◌∷◌, Option, Some, None, option_map, String, Vec, Global, string_bytes, Ordering, Less, Equal, Greater, is_eq, nat_cmp, refl, ap, arith}
use Rattle.std.specs.Prelude.{if◌then◌else◌}
use Rattle.std.specs.Ordering.{match_ordering}
use Rattle.std.specs.Cmp.Lexicographic.{slice_cmp}
use Rattle.std.proofs.lemmas.Map.Text.{is_eq-slice_cmp}
use Rattle.serde_json.specs.Data.{Data, null, boolean, number, string, array, object, Items, no_items, item, Members, no_members, member}
use Rattle.serde_json.specs.Find.{get_member, as_str}
use Rattle.serde_json.specs.View.{view, items_view}
use Rattle.serde_json.specs.declared.value.Value.{Value, Array}
use Rattle.serde_json.specs.declared.value.Value as values
use Rattle.serde_json.proofs.Views.{view-Array}
use Rattle.vx_document.proofs.Documents.{view-String}
use Rattle.vx_document.specs.Reading.{◌>>=◌, all_by, pair_of}
use Rattle.vx_document.specs.Types.{type_read, type_at, fields_at, fields_in, fields_read, field_read}

-- ---- a key's value is read as the member that it is

-- by an order or by a test, a key stands here or later
here_or_later : {A : Type 0} (o : Ordering) (f : Data → Option A) (d : Data) (later : Option Data) → (if is_eq o then f d else (later >>= f)) ≡ (match_ordering o later (Some d) later >>= f)
here_or_later Less f d later = refl
here_or_later Equal f d later = refl
here_or_later Greater f d later = refl

pub type_at-get : (key : List ℕ) (ms : Members) → type_at key ms ≡ (get_member key ms >>= type_read)
type_at-get key no_members = refl
type_at-get key (member k d ms) =
    rw (← is_eq-slice_cmp key k, type_at-get key ms) (here_or_later (slice_cmp nat_cmp key k) type_read d (get_member key ms))

pub fields_at-get : (key : List ℕ) (ms : Members) → fields_at key ms ≡ (get_member key ms >>= fields_in)
fields_at-get key no_members = refl
fields_at-get key (member k d ms) =
    rw (← is_eq-slice_cmp key k, fields_at-get key ms) (here_or_later (slice_cmp nat_cmp key k) fields_in d (get_member key ms))

pub ruleset keyed = (type_at-get, fields_at-get)

-- ---- fields

pub fields_read-all : (ds : Items) → fields_read ds ≡ all_by field_read ds
fields_read-all no_items = refl
fields_read-all (item d ds) = ap (λ o. field_read d >>= (λ f. option_map (λ fs. f ∷ fs) o)) (fields_read-all ds)

-- a list of two is a field's where the first is a text and the second a type
pub field_read-pair : (vs : List Value) (a b : Value) → pair_of vs ≡ Some (a, b) → field_read (array (items_view vs)) ≡ (as_str (view a) >>= (λ name. option_map (λ t. (name, t)) (type_read (view b))))
field_read-pair [] a b e = absurd cc
field_read-pair (v ∷ []) a b e = absurd cc
field_read-pair (v ∷ w ∷ []) a b e =
    let both : (v, w) ≡ (a, b) = cc in
    let first : v ≡ a = ap (λ (p : Value × Value). p.0) both in
    let second : w ≡ b = ap (λ (p : Value × Value). p.1) both in
    rw (first, second) (by_text (view a))
  where
    by_text : (d : Data) → field_read (array (item d (item (view b) no_items))) ≡ (as_str d >>= (λ name. option_map (λ t. (name, t)) (type_read (view b))))
    by_text null = refl
    by_text (boolean x) = refl
    by_text (number n) = refl
    by_text (string s) = refl
    by_text (array ds) = refl
    by_text (object ms) = refl
field_read-pair (v ∷ w ∷ x ∷ vs) a b e = absurd cc

field_of_three : (a : Data) (b c : Data) (ds : Items) → field_read (array (item a (item b (item c ds)))) ≡ None
field_of_three null b c ds = refl
field_of_three (boolean x) b c ds = refl
field_of_three (number n) b c ds = refl
field_of_three (string s) b c ds = refl
field_of_three (array es) b c ds = refl
field_of_three (object ms) b c ds = refl

field_of_one : (a : Data) → field_read (array (item a no_items)) ≡ None
field_of_one null = refl
field_of_one (boolean x) = refl
field_of_one (number n) = refl
field_of_one (string s) = refl
field_of_one (array es) = refl
field_of_one (object ms) = refl

pub field_read-none : (vs : List Value) → pair_of vs ≡ None → field_read (array (items_view vs)) ≡ None
field_read-none [] e = refl
field_read-none (v ∷ []) e = field_of_one (view v)
field_read-none (v ∷ w ∷ []) e = absurd cc
field_read-none (v ∷ w ∷ x ∷ vs) e = field_of_three (view v) (view w) (view x) (items_view vs)

-- a value that is a list of a text and another
pub field_read-of : (v : Value) (list : Vec Value Global) (a b : Value) (name : String Global) → v ≡ Array list → pair_of list.items ≡ Some (a, b) → a ≡ values.String name
    → field_read (view v) ≡ option_map (λ t. (string_bytes name, t)) (type_read (view b))
field_read-of v list a b name is two text = rw (is, view-Array list, field_read-pair list.items a b two, text, view-String name) refl

-- a value that is a list
pub fields_in-list : (o : Option Value) (list : Vec Value Global) → o ≡ Some (Array list) → (option_map view o >>= fields_in) ≡ all_by field_read (items_view list.items)
fields_in-list o list e = rw (e, view-Array list) (fields_read-all (items_view list.items))

-- ---- how large a value is

abbrev mutual
  pub data_count : Data → ℕ
  data_count null = 1
  data_count (boolean b) = 1
  data_count (number n) = 1
  data_count (string s) = 1
  data_count (array ds) = 4 + items_count ds
  data_count (object ms) = 4 + members_count ms

  pub items_count : Items → ℕ
  items_count no_items = 0
  items_count (item d ds) = 1 + (data_count d + items_count ds)

  pub members_count : Members → ℕ
  members_count no_members = 0
  members_count (member k d ms) = data_count d + members_count ms

abbrev pub option_count : Option Data → ℕ
option_count None = 0
option_count (Some d) = data_count d

found_count : (o : Ordering) (d : Data) (later : Option Data) (rest : ℕ) → option_count later ≤ rest → option_count (match_ordering o later (Some d) later) ≤ data_count d + rest
found_count Less d later rest h = omega arith
found_count Equal d later rest h = omega arith
found_count Greater d later rest h = omega arith

-- a member counts at most as much as all
pub member_count : (key : List ℕ) (ms : Members) → option_count (get_member key ms) ≤ members_count ms
member_count key no_members = omega arith
member_count key (member k d ms) = found_count (slice_cmp nat_cmp key k) d (get_member key ms) (members_count ms) (member_count key ms)
