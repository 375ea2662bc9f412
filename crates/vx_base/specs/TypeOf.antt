-- Types and values of the code as plain data.
use Rattle.std.specs.Prelude.{ℕ, List}
use Rattle.vx_base.specs.declared.dtype.DType.{DType, fold-DType}
use Rattle.vx_base.specs.declared.dtype.DType.TheOpen.{DType-F, Fields-F}
use Rattle.vx_base.specs.declared.dtype.Fields.{Fields, fold-Fields}
use Rattle.vx_base.specs.declared.value.Value.{Value}
use Rattle.vx_base.specs.declared.value.Value.TheVariants as values
use Rattle.vx_base.specs.PlainType.{PlainType, null_type, boolean, primitive, utf8, binary, timestamp, structure, list, fixed_size_list, of_fields}
use Rattle.vx_base.specs.PlainValue.{PlainValue, null, truth, int, bytes, items, of_list}

-- the names and types of fields
abbrev pub FieldList : Type 0
FieldList = List (List ℕ × PlainType)

-- a type as plain data, from the types inside as plain data
abbrev pub type_step : DType-F PlainType FieldList → PlainType
type_step DType-F.Null = null_type
type_step (DType-F.Bool n) = boolean n
type_step (DType-F.Primitive p n) = primitive p n
type_step (DType-F.Utf8 n) = utf8 n
type_step (DType-F.Binary n) = binary n
type_step (DType-F.Timestamp k n) = timestamp k n
type_step (DType-F.Struct fs n) = structure (of_fields fs) n
type_step (DType-F.List t n) = list t.value n
type_step (DType-F.FixedSizeList t size n) = fixed_size_list t.value size n

-- fields as plain data, from their types as plain data
abbrev pub fields_step : Fields-F PlainType FieldList → FieldList
fields_step fs = fs.items.items

-- a type as plain data
abbrev pub type_of : DType → PlainType
type_of = fold-DType PlainType FieldList type_step fields_step

-- fields as plain data
abbrev pub fields_of : Fields → FieldList
fields_of = fold-Fields PlainType FieldList type_step fields_step

-- a field as plain data
abbrev pub field_of : List ℕ × DType → List ℕ × PlainType
field_of f = (f.0, type_of f.1)

-- a value as plain data
abbrev pub value_of : Value → PlainValue
value_of values.Null = null
value_of (values.Bool b) = truth b
value_of (values.Int z) = int z
value_of (values.Bytes bs) = bytes bs
value_of (values.List vs) = items (of_list vs)
