-- How a type is spelled: a byte for its kind; but for the null type its nullability; and what the kind has of its own.
use Rattle.std.specs.Prelude.{ℕ, zero, suc, ◌≤◌, max, List, [], ◌++◌, Option, Some, None, ◌==◌, cond}
use Rattle.vx_base.specs.declared.dtype.Nullability.{Nullability}
use Rattle.vx_base.specs.declared.ptype.PType.{PType}
use Rattle.vx_base.specs.PlainType.{PlainType, PlainFields, null_type, boolean, primitive, utf8, binary, timestamp, structure, list, fixed_size_list, none, more, of_fields}
use Rattle.vx_base.specs.Timestamps.{PlainTimestamp}
use Rattle.vx_codec.specs.FixedWidth.{enumerated}
use Rattle.vx_codec.specs.Format.{Parse, Format, both, made_at, keyed_at}
use Rattle.vx_codec.specs.Lists.{counted}
use Rattle.vx_codec.specs.Varint.{varint}
use Rattle.vx_spelling.specs.declared.kinds.TypeKind.{TypeKind}
use Rattle.vx_spelling.specs.declared.kinds.TypeKind.TheVariants as kinds
use Rattle.vx_spelling.specs.Fields.{nullability, ptype, timestamp_kind, name, list_size}

-- the byte of a kind of types
abbrev pub type_kind_number : TypeKind → ℕ
type_kind_number kinds.Null = 0
type_kind_number kinds.Bool = 1
type_kind_number kinds.Primitive = 2
type_kind_number kinds.Utf8 = 3
type_kind_number kinds.Binary = 4
type_kind_number kinds.Timestamp = 5
type_kind_number kinds.Struct = 6
type_kind_number kinds.List = 7
type_kind_number kinds.FixedSizeList = 8

-- the kind of types of a byte; None from 9 on
abbrev pub type_kind_from : ℕ → Option TypeKind
type_kind_from n =
    cond (n == 0) (Some kinds.Null) (cond (n == 1) (Some kinds.Bool) (cond (n == 2) (Some kinds.Primitive) (cond (n == 3) (Some kinds.Utf8)
    (cond (n == 4) (Some kinds.Binary) (cond (n == 5) (Some kinds.Timestamp) (cond (n == 6) (Some kinds.Struct) (cond (n == 7) (Some kinds.List)
    (cond (n == 8) (Some kinds.FixedSizeList) None))))))))

-- the kind of a type, by a byte from 0 to 8
abbrev pub type_kind : Format TypeKind
type_kind = enumerated type_kind_number type_kind_from

-- the kind of a type
abbrev pub kind_of_type : PlainType → TypeKind
kind_of_type null_type = kinds.Null
kind_of_type (boolean n) = kinds.Bool
kind_of_type (primitive p n) = kinds.Primitive
kind_of_type (utf8 n) = kinds.Utf8
kind_of_type (binary n) = kinds.Binary
kind_of_type (timestamp k n) = kinds.Timestamp
kind_of_type (structure fs n) = kinds.Struct
kind_of_type (list t n) = kinds.List
kind_of_type (fixed_size_list t size n) = kinds.FixedSizeList

-- the number of fields
abbrev pub count_fields : PlainFields → ℕ
count_fields none = 0
count_fields (more field t fs) = suc (count_fields fs)

-- what stands behind the kind
abbrev mutual
  pub type_body : PlainType → List ℕ
  type_body null_type = []
  type_body (boolean n) = nullability.spell n
  type_body (primitive p n) = nullability.spell n ++ ptype.spell p
  type_body (utf8 n) = nullability.spell n
  type_body (binary n) = nullability.spell n
  type_body (timestamp k n) = nullability.spell n ++ timestamp_kind.spell k
  type_body (structure fs n) = nullability.spell n ++ (varint.spell (count_fields fs) ++ field_types_body fs)
  type_body (list t n) = nullability.spell n ++ (type_kind.spell (kind_of_type t) ++ type_body t)
  type_body (fixed_size_list t size n) = nullability.spell n ++ (list_size.spell size ++ (type_kind.spell (kind_of_type t) ++ type_body t))

  -- the name and the type of each field
  pub field_types_body : PlainFields → List ℕ
  field_types_body none = []
  field_types_body (more field t fs) = (name.spell field ++ (type_kind.spell (kind_of_type t) ++ type_body t)) ++ field_types_body fs

-- the spelling of a type
abbrev pub type_text : PlainType → List ℕ
type_text t = type_kind.spell (kind_of_type t) ++ type_body t

-- how many types nest in one another, the outermost counted
abbrev mutual
  pub type_depth : PlainType → ℕ
  type_depth null_type = 1
  type_depth (boolean n) = 1
  type_depth (primitive p n) = 1
  type_depth (utf8 n) = 1
  type_depth (binary n) = 1
  type_depth (timestamp k n) = 1
  type_depth (structure fs n) = suc (field_types_depth fs)
  type_depth (list t n) = suc (type_depth t)
  type_depth (fixed_size_list t size n) = suc (type_depth t)

  -- how many types nest in the deepest of the fields
  pub field_types_depth : PlainFields → ℕ
  field_types_depth none = 0
  field_types_depth (more field t fs) = max (type_depth t) (field_types_depth fs)

-- the numbers of a type fit their fields: kinds of timestamps, numbers of fields, lengths of names, and sizes
abbrev mutual
  pub TypeFits : PlainType → Type 0
  TypeFits null_type = Unit {0}
  TypeFits (boolean n) = Unit {0}
  TypeFits (primitive p n) = Unit {0}
  TypeFits (utf8 n) = Unit {0}
  TypeFits (binary n) = Unit {0}
  TypeFits (timestamp k n) = timestamp_kind.Fits k
  TypeFits (structure fs n) = varint.Fits (count_fields fs) × FieldTypesFit fs
  TypeFits (list t n) = TypeFits t
  TypeFits (fixed_size_list t size n) = list_size.Fits size × TypeFits t

  -- the numbers of each field's name and type fit
  pub FieldTypesFit : PlainFields → Type 0
  FieldTypesFit none = Unit {0}
  FieldTypesFit (more field t fs) = name.Fits field × (TypeFits t × FieldTypesFit fs)

-- at most d types nest, and the numbers fit
abbrev pub TypeFitsAt : ℕ → PlainType → Type 0
TypeFitsAt d t = (type_depth t ≤ d) × TypeFits t

-- the format of the types inside, given their reader; only its `parse` is used
abbrev pub types_by : Parse PlainType → Format PlainType
types_by inner = record { spell = type_text; parse = inner; Fits = λ _. Unit {0} }

-- a struct's fields: their number, and each name and type
abbrev pub type_fields : Format PlainType → Format (List (List ℕ × PlainType))
type_fields inner = counted (both name inner)

-- an integer type of its parts
abbrev pub primitive_type_of : Nullability × PType → PlainType
primitive_type_of p = primitive p.1 p.0

-- a type of timestamps of its parts
abbrev pub timestamp_type_of : Nullability × PlainTimestamp → PlainType
timestamp_type_of p = timestamp p.1 p.0

-- a struct type of its parts
abbrev pub struct_type_of : Nullability × List (List ℕ × PlainType) → PlainType
struct_type_of p = structure (of_fields p.1) p.0

-- a list type of its parts
abbrev pub list_type_of : Nullability × PlainType → PlainType
list_type_of p = list p.1 p.0

-- a fixed-size list type of its parts
abbrev pub fixed_type_of : Nullability × (ℕ × PlainType) → PlainType
fixed_type_of p = fixed_size_list p.1.1 p.1.0 p.0

-- what stands behind each kind
abbrev pub type_behind : Format PlainType → TypeKind → Parse PlainType
type_behind inner kinds.Null = λ bytes. Some (null_type, bytes)
type_behind inner kinds.Bool = made_at boolean nullability.parse
type_behind inner kinds.Primitive = made_at primitive_type_of (both nullability ptype).parse
type_behind inner kinds.Utf8 = made_at utf8 nullability.parse
type_behind inner kinds.Binary = made_at binary nullability.parse
type_behind inner kinds.Timestamp = made_at timestamp_type_of (both nullability timestamp_kind).parse
type_behind inner kinds.Struct = made_at struct_type_of (both nullability (type_fields inner)).parse
type_behind inner kinds.List = made_at list_type_of (both nullability inner).parse
type_behind inner kinds.FixedSizeList = made_at fixed_type_of (both nullability (both list_size inner)).parse

-- reads a type in which at most d types nest
abbrev pub type_at : ℕ → Parse PlainType
type_at zero bytes = None
type_at (suc d) bytes = keyed_at type_kind.parse (type_behind (types_by (type_at d))) bytes

-- a type in which at most d types nest
abbrev pub type_format : ℕ → Format PlainType
type_format d = record { spell = type_text; parse = type_at d; Fits = TypeFitsAt d }
