-- Types and values as text.
use Rattle.std.specs.Prelude.{ℕ, List, [], ◌++◌, true, false, Option, Some, None, codes, if◌then◌else◌}
use Rattle.std.specs.Fmt.{decimal, signed_decimal}
use Rattle.hex.specs.Hex.{encode_lower}
use Rattle.json.specs.Print.{quoted}
use Rattle.vx_base.specs.declared.ptype.PType.{PType}
use Rattle.vx_base.specs.declared.ptype.PType.TheVariants.{U8, U16, U32, U64, I8, I16, I32, I64}
use Rattle.vx_base.specs.declared.dtype.Nullability.{Nullability}
use Rattle.vx_base.specs.declared.dtype.Nullability.TheVariants.{NonNullable, Nullable}
use Rattle.vx_base.specs.declared.timestamp.TimeUnit.{TimeUnit}
use Rattle.vx_base.specs.declared.timestamp.TimeUnit.TheVariants.{Nanoseconds, Microseconds, Milliseconds, Seconds, Days}
use Rattle.vx_base.specs.PlainType.{PlainType, PlainFields, null_type, boolean, primitive, utf8, binary, timestamp, structure, list, fixed_size_list, of_fields, nullability_of, is_text}
use Rattle.vx_base.specs.PlainType as types
use Rattle.vx_base.specs.PlainValue.{PlainValue, PlainValues, null, truth, int, bytes, items, of_list}
use Rattle.vx_base.specs.PlainValue as vals

-- an integer type as text
abbrev pub ptype_text : PType → List ℕ
ptype_text U8 = codes "u8"
ptype_text U16 = codes "u16"
ptype_text U32 = codes "u32"
ptype_text U64 = codes "u64"
ptype_text I8 = codes "i8"
ptype_text I16 = codes "i16"
ptype_text I32 = codes "i32"
ptype_text I64 = codes "i64"

-- a unit as text
abbrev pub unit_text : TimeUnit → List ℕ
unit_text Nanoseconds = codes "ns"
unit_text Microseconds = codes "us"
unit_text Milliseconds = codes "ms"
unit_text Seconds = codes "s"
unit_text Days = codes "days"

-- a zone's name between angle brackets, as it is
abbrev pub zone_text : Option (List ℕ) → List ℕ
zone_text None = []
zone_text (Some zone) = codes "<" ++ zone ++ codes ">"

-- the mark of a nullable type, a question mark
abbrev pub nullable_mark : Nullability → List ℕ
nullable_mark NonNullable = []
nullable_mark Nullable = codes "?"

-- the mark of a type; the null type, which is always nullable, has none
abbrev pub type_mark : PlainType → List ℕ
type_mark null_type = []
type_mark t = nullable_mark (nullability_of t)

-- the text of a type without its mark
abbrev mutual
  pub base_text : PlainType → List ℕ
  base_text null_type = codes "null"
  base_text (boolean n) = codes "bool"
  base_text (primitive p n) = ptype_text p
  base_text (utf8 n) = codes "text"
  base_text (binary n) = codes "binary"
  base_text (timestamp k n) = codes "timestamp " ++ unit_text k.unit ++ zone_text k.zone
  base_text (structure fs n) = codes "{" ++ fields_text [] fs ++ codes "}"
  base_text (list t n) = codes "[" ++ (base_text t ++ type_mark t) ++ codes "]"
  base_text (fixed_size_list t size n) = codes "[" ++ (base_text t ++ type_mark t) ++ codes ";" ++ decimal size ++ codes "]"

  -- `name:type` for each field, separated by commas; `before` precedes the first
  pub fields_text : List ℕ → PlainFields → List ℕ
  fields_text before types.none = []
  fields_text before (types.more name t fs) = before ++ name ++ codes ":" ++ (base_text t ++ type_mark t) ++ fields_text (codes ",") fs

-- the text of a type: that without its mark, and the mark
abbrev pub type_text : PlainType → List ℕ
type_text t = base_text t ++ type_mark t

-- a value of a type as compact JSON: a text as a string, a binary as the string of its lower-case hex digits, a struct as the
-- array of its field values
abbrev mutual
  pub value_text : PlainType → PlainValue → List ℕ
  value_text t null = codes "null"
  value_text t (truth true) = codes "true"
  value_text t (truth false) = codes "false"
  value_text t (int z) = signed_decimal z
  value_text t (bytes bs) = quoted (if is_text t then bs else encode_lower bs)
  value_text (structure fs n) (items vs) = codes "[" ++ field_values_text [] fs vs ++ codes "]"
  value_text (list t n) (items vs) = codes "[" ++ items_text [] t vs ++ codes "]"
  value_text (fixed_size_list t size n) (items vs) = codes "[" ++ items_text [] t vs ++ codes "]"
  value_text _ (items vs) = []

  -- each value by its field's type, separated by commas; `before` precedes the first
  pub field_values_text : List ℕ → PlainFields → PlainValues → List ℕ
  field_values_text before (types.more name t fs) (vals.more v vs) = before ++ value_text t v ++ field_values_text (codes ",") fs vs
  field_values_text before _ _ = []

  -- each value by the one type, separated by commas; `before` precedes the first
  pub items_text : List ℕ → PlainType → PlainValues → List ℕ
  items_text before t vals.none = []
  items_text before t (vals.more v vs) = before ++ value_text t v ++ items_text (codes ",") t vs

-- a struct's value, over lists
abbrev pub field_list_text : List (List ℕ × PlainType) → List PlainValue → List ℕ
field_list_text fs vs = codes "[" ++ field_values_text [] (of_fields fs) (of_list vs) ++ codes "]"

-- a list's value, over a list
abbrev pub list_text : PlainType → List PlainValue → List ℕ
list_text t vs = codes "[" ++ items_text [] t (of_list vs) ++ codes "]"
