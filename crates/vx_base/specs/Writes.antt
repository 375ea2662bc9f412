-- What types, values and scalars write to a hasher. Equal ones write the same.
use Rattle.std.specs.Prelude.{◌≡◌, ℕ, ◌++◌, true, List, [], ◌∷◌, length, Option, Some, None}
use Rattle.std.proofs.Common.{ap}
use Rattle.std.specs.Hash as fed
use Rattle.std.specs.Hash.{HashWrites}
use Rattle.vx_base.specs.Storable.{same, same_path}
use Rattle.vx_base.specs.Timestamps.{PlainTimestamp, unit_number}
use Rattle.vx_base.specs.declared.dtype.Nullability.TheVariants.{Nullable}
use Rattle.vx_base.specs.PlainType.{PlainType, PlainFields, null_type, boolean, primitive, utf8, binary, timestamp, structure, list, fixed_size_list, of_fields, ptype_number, nullability_number, stored_type}
use Rattle.vx_base.specs.PlainType as types
use Rattle.vx_base.specs.PlainValue.{PlainValue, PlainValues, null, truth, int, bytes, items, list_of, of_list, stored_value}
use Rattle.vx_base.specs.PlainValue as vals
use Rattle.vx_base.specs.PlainScalar.{PlainScalar, stored_scalar}

-- the length, and then the bytes in one write
abbrev pub bytes_writes : List ℕ → HashWrites
bytes_writes bs = fed.u64 (length bs) ++ bs ∷ []

-- 0 without a zone, and else 1 and its bytes
abbrev pub zone_writes : Option (List ℕ) → HashWrites
zone_writes None = fed.u8 0
zone_writes (Some zone) = fed.u8 1 ++ bytes_writes zone

-- the unit and the zone
abbrev pub kind_writes : PlainTimestamp → HashWrites
kind_writes k = fed.u8 (unit_number k.unit) ++ zone_writes k.zone

-- of a type: a number for its kind, its own parameters, and its nullability
abbrev mutual
  pub type_writes : PlainType → HashWrites
  type_writes (boolean n) = fed.u8 0 ++ fed.u8 (nullability_number n)
  type_writes (primitive p n) = fed.u8 1 ++ fed.u8 (ptype_number p) ++ fed.u8 (nullability_number n)
  type_writes (utf8 n) = fed.u8 2 ++ fed.u8 (nullability_number n)
  type_writes (binary n) = fed.u8 3 ++ fed.u8 (nullability_number n)
  type_writes (timestamp k n) = fed.u8 4 ++ kind_writes k ++ fed.u8 (nullability_number n)
  type_writes null_type = fed.u8 5 ++ fed.u8 (nullability_number Nullable)
  type_writes (structure fs n) = fed.u8 6 ++ fields_writes fs ++ fed.u8 (nullability_number n)
  type_writes (list t n) = fed.u8 7 ++ type_writes t ++ fed.u8 (nullability_number n)
  type_writes (fixed_size_list t size n) = fed.u8 8 ++ type_writes t ++ fed.u32 size ++ fed.u8 (nullability_number n)

  -- the name and the type of each field
  pub fields_writes : PlainFields → HashWrites
  fields_writes types.none = []
  fields_writes (types.more name t fs) = bytes_writes name ++ type_writes t ++ fields_writes fs

-- `fields_writes`, over a list
abbrev pub field_list_writes : List (List ℕ × PlainType) → HashWrites
field_list_writes fs = fields_writes (of_fields fs)

-- of a value: a number for its kind, and its content; where it holds others, their number first
abbrev mutual
  pub value_writes : PlainValue → HashWrites
  value_writes null = fed.u8 0
  value_writes (truth b) = fed.u8 1 ++ fed.bool b
  value_writes (int z) = fed.u8 2 ++ fed.i128 z
  value_writes (bytes bs) = fed.u8 3 ++ bytes_writes bs
  value_writes (items vs) = fed.u8 4 ++ fed.u64 (length (list_of vs)) ++ items_writes vs

  -- each value in order
  pub items_writes : PlainValues → HashWrites
  items_writes vals.none = []
  items_writes (vals.more v vs) = value_writes v ++ items_writes vs

-- `items_writes`, over a list
abbrev pub value_list_writes : List PlainValue → HashWrites
value_list_writes vs = items_writes (of_list vs)

-- of a scalar: its type and then its value
abbrev pub scalar_writes : PlainScalar → HashWrites
scalar_writes s = type_writes s.dtype ++ value_writes s.value

-- equal ones write the same
pub types_alike : (a b : PlainType) → same stored_type a b ≡ true → type_writes a ≡ type_writes b
types_alike a b e = ap type_writes (same_path stored_type a b e)

pub values_alike : (a b : PlainValue) → same stored_value a b ≡ true → value_writes a ≡ value_writes b
values_alike a b e = ap value_writes (same_path stored_value a b e)

pub scalars_alike : (a b : PlainScalar) → same stored_scalar a b ≡ true → scalar_writes a ≡ scalar_writes b
scalars_alike a b e = ap scalar_writes (same_path stored_scalar a b e)
