-- The type of a document: a text, or an object for structs, lists, fixed-size lists and timestamps.
use Rattle.std.specs.Prelude.{ℕ, ◌^◌, nat_lt, List, [], ◌∷◌, ◌++◌, find, Bool, true, false, if◌then◌else◌, Option, Some, None, is_some, option_map, codes}
use Rattle.std.specs.Str.{bytes_eq}
use Rattle.serde_json.specs.Data.{Data, string, array, object, Items, no_items, item, Members, no_members, member}
use Rattle.serde_json.specs.Find.{get_member, as_bool, as_number, as_str, as_u64}
use Rattle.vx_base.specs.declared.dtype.Nullability.{Nullability}
use Rattle.vx_base.specs.declared.dtype.Nullability.TheVariants.{NonNullable, Nullable}
use Rattle.vx_base.specs.declared.ptype.PType.TheVariants.{U8, U16, U32, U64, I8, I16, I32, I64}
use Rattle.vx_base.specs.declared.timestamp.TimeUnit.{TimeUnit}
use Rattle.vx_base.specs.declared.timestamp.TimeUnit.TheVariants.{Nanoseconds, Microseconds, Milliseconds, Seconds}
use Rattle.vx_base.specs.PlainType.{PlainType, null_type, boolean, primitive, utf8, binary, timestamp, structure, list, fixed_size_list, of_fields}
use Rattle.vx_base.specs.Timestamps.{kind}
use Rattle.vx_base.specs.TypeText.{type_text, unit_text}
use Rattle.vx_document.specs.Reading.{◌>>=◌, when, has_only}

-- the types that a text may name, of one nullability
abbrev pub named_types : Nullability → List PlainType
named_types n =
    boolean n ∷ primitive U8 n ∷ primitive U16 n ∷ primitive U32 n ∷ primitive U64 n ∷ primitive I8 n ∷ primitive I16 n ∷ primitive I32 n ∷ primitive I64 n
    ∷ utf8 n ∷ binary n ∷ timestamp (kind Seconds None) n ∷ timestamp (kind Milliseconds None) n ∷ timestamp (kind Microseconds None) n ∷ timestamp (kind Nanoseconds None) n ∷ []

-- the type whose text it is
unfoldable pub type_named : List ℕ → Option PlainType
type_named text = find (λ t. bytes_eq text (type_text t)) (null_type ∷ named_types NonNullable ++ named_types Nullable)

-- the unit with this name; none of days, which no timestamp counts
unfoldable pub unit_named : List ℕ → Option TimeUnit
unit_named text = find (λ u. bytes_eq text (unit_text u)) (Seconds ∷ Milliseconds ∷ Microseconds ∷ Nanoseconds ∷ [])

-- a unit, by its name
abbrev pub unit_in : Option Data → Option TimeUnit
unit_in o = o >>= as_str >>= unit_named

-- a zone, by its name; absent, there is none
abbrev pub zone_in : Option Data → Option (Option (List ℕ))
zone_in None = Some None
zone_in (Some d) = option_map Some (as_str d)

-- the nullability that `true` and `false` stand for
abbrev pub nullability_of_bool : Bool → Nullability
nullability_of_bool false = NonNullable
nullability_of_bool true = Nullable

-- a nullability; absent, it is NonNullable
abbrev pub nullability_in : Option Data → Option Nullability
nullability_in None = Some NonNullable
nullability_in (Some d) = option_map nullability_of_bool (as_bool d)

-- timestamps of a unit, with or without a zone and a nullability; no other key stands in the object
unfoldable pub timestamp_of : Members → Option PlainType
timestamp_of members = do
  _ ← when (has_only (codes "timestamp" ∷ codes "zone" ∷ codes "nullable" ∷ []) members)
  unit ← unit_in (get_member (codes "timestamp") members)
  zone ← zone_in (get_member (codes "zone") members)
  n ← nullability_in (get_member (codes "nullable") members)
  Some (timestamp (kind unit zone) n)

-- a whole number from 0 to 2^32 - 1
abbrev pub size_in : Option Data → Option ℕ
size_in o = do
  d ← o
  number ← as_number d
  size ← as_u64 number
  _ ← when (nat_lt size (2 ^ 32))
  Some size

-- structs of these fields; no other key stands in the object
abbrev pub structs_of : Members → Option (List (List ℕ × PlainType)) → Option PlainType
structs_of members fields = do
  _ ← when (has_only (codes "struct" ∷ codes "nullable" ∷ []) members)
  fs ← fields
  n ← nullability_in (get_member (codes "nullable") members)
  Some (structure (of_fields fs) n)

-- lists of this type; no other key stands in the object
abbrev pub lists_of : Members → Option PlainType → Option PlainType
lists_of members items = do
  _ ← when (has_only (codes "list" ∷ codes "nullable" ∷ []) members)
  t ← items
  n ← nullability_in (get_member (codes "nullable") members)
  Some (list t n)

-- lists of this type and of a fixed size; no other key stands in the object
abbrev pub fixed_lists_of : Members → Option PlainType → Option PlainType
fixed_lists_of members items = do
  _ ← when (has_only (codes "fixed" ∷ codes "size" ∷ codes "nullable" ∷ []) members)
  t ← items
  size ← size_in (get_member (codes "size") members)
  n ← nullability_in (get_member (codes "nullable") members)
  Some (fixed_size_list t size n)

-- the key stands in the object
abbrev pub has : List ℕ → Members → Bool
has key members = is_some (get_member key members)

-- A text is a type's name. An object is a struct's, a list's or a fixed-size list's by the first of these keys that it has,
-- else a timestamp's.
abbrev mutual
  pub type_read : Data → Option PlainType
  type_read (string text) = type_named text
  type_read (object members) =
      if has (codes "struct") members then structs_of members (fields_at (codes "struct") members)
      else (if has (codes "list") members then lists_of members (type_at (codes "list") members)
      else (if has (codes "fixed") members then fixed_lists_of members (type_at (codes "fixed") members) else timestamp_of members))
  type_read _ = None

  -- the type at a key
  pub type_at : List ℕ → Members → Option PlainType
  type_at key no_members = None
  type_at key (member k d ms) = if bytes_eq key k then type_read d else type_at key ms

  -- the fields at a key
  pub fields_at : List ℕ → Members → Option (List (List ℕ × PlainType))
  fields_at key no_members = None
  fields_at key (member k d ms) = if bytes_eq key k then fields_in d else fields_at key ms

  -- a list of fields
  pub fields_in : Data → Option (List (List ℕ × PlainType))
  fields_in (array ds) = fields_read ds
  fields_in _ = None

  -- the fields, each of one item
  pub fields_read : Items → Option (List (List ℕ × PlainType))
  fields_read no_items = Some []
  fields_read (item d ds) = field_read d >>= (λ f. option_map (λ fs. f ∷ fs) (fields_read ds))

  -- a field: a list of a name and a type
  pub field_read : Data → Option (List ℕ × PlainType)
  field_read (array (item (string name) (item d no_items))) = option_map (λ t. (name, t)) (type_read d)
  field_read _ = None
