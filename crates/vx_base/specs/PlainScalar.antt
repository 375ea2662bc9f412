-- Typed values as plain data, and which values are of a type.
use Rattle.std.specs.Prelude.{Bool, true, false, ◌&&◌, ◌==◌, ℕ, List, length}
use Rattle.std.specs.Coded.{Coded}
use Rattle.std.specs.Str.{is_utf8}
use Rattle.vx_base.specs.declared.ptype.PType.TheVariants.{I64}
use Rattle.vx_base.specs.Integers.{lies_in}
use Rattle.vx_base.specs.Storable.{Storable, code_of, stored×}
use Rattle.vx_base.specs.PlainType.{PlainType, PlainFields, boolean, primitive, utf8, binary, timestamp, structure, list, fixed_size_list, of_fields, is_nullable, stored_type}
use Rattle.vx_base.specs.PlainType as types
use Rattle.vx_base.specs.PlainValue.{PlainValue, PlainValues, null, truth, int, bytes, items, list_of, of_list, is_short, stored_value}
use Rattle.vx_base.specs.PlainValue as vals

-- a value with its type
pub record PlainScalar : Type 0 where
  pub dtype : PlainType
  pub value : PlainValue

-- whether a value is one of a type: null of any nullable type; a truth value of bool; a whole number of an integer type
-- with it in range, and of a timestamp within 64 signed bits; fewer than 2^32 bytes of binary, and of text if they are valid
-- UTF-8; of a struct one fitting value per field, of a list any number of fitting items, of a list of fixed size `size`
abbrev mutual
  pub fits : PlainType → PlainValue → Bool
  fits t null = is_nullable t
  fits (boolean n) (truth b) = true
  fits (primitive p n) (int z) = lies_in p z
  fits (timestamp k n) (int z) = lies_in I64 z
  fits (utf8 n) (bytes bs) = is_short bs && is_utf8 bs
  fits (binary n) (bytes bs) = is_short bs
  fits (structure fs n) (items vs) = fields_fit fs vs
  fits (list t n) (items vs) = items_fit t vs
  fits (fixed_size_list t size n) (items vs) = length (list_of vs) == size && items_fit t vs
  fits _ _ = false

  -- one value per field, and each fits its field's type
  pub fields_fit : PlainFields → PlainValues → Bool
  fields_fit types.none vals.none = true
  fields_fit (types.more name t fs) (vals.more v vs) = fits t v && fields_fit fs vs
  fields_fit _ _ = false

  -- each value fits the type
  pub items_fit : PlainType → PlainValues → Bool
  items_fit t vals.none = true
  items_fit t (vals.more v vs) = fits t v && items_fit t vs

-- `fields_fit`, over lists
abbrev pub field_list_fits : List (List ℕ × PlainType) → List PlainValue → Bool
field_list_fits fs vs = fields_fit (of_fields fs) (of_list vs)

-- `items_fit`, over a list
abbrev pub list_fits : PlainType → List PlainValue → Bool
list_fits t vs = items_fit t (of_list vs)

-- a value with its type, from the two
abbrev pub scalar : PlainType → PlainValue → PlainScalar
scalar t v = record { dtype = t; value = v }

-- ---- how the logic stores a scalar
abbrev pub stored_parts : Storable (PlainType × PlainValue)
stored_parts = stored× stored_type stored_value

-- a scalar is stored as its type and its value
abbrev pub stored_scalar : Storable PlainScalar
stored_scalar =
    record {
      to = λ s. stored_parts.to (s.dtype, s.value);
      from = λ g. let p = stored_parts.from g in scalar p.0 p.1;
      back = λ s i. let p = stored_parts.back (s.dtype, s.value) i in scalar p.0 p.1;
    }

-- the code by which the logic decides equality of scalars
abbrev pub scalar_code : Coded PlainScalar
scalar_code = code_of stored_scalar
