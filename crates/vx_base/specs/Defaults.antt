-- Defaults: what a plain column stores in the rows that are null.
use Rattle.std.specs.Prelude.{ℕ, pos, false, List, [], map, replicate, if◌then◌else◌}
use Rattle.vx_base.specs.PlainType.{PlainType, PlainFields, null_type, boolean, primitive, utf8, binary, timestamp, structure, list, fixed_size_list, is_nullable}
use Rattle.vx_base.specs.PlainType as types
use Rattle.vx_base.specs.PlainValue.{PlainValue, PlainValues, null, truth, int, bytes, items, of_list, is_null}
use Rattle.vx_base.specs.PlainValue as vals

-- the default of a type: false, 0, no bytes, no items; a struct has one value per field and a list of fixed size `size`
-- items, each null where its type is nullable and else that type's default. The null type has null alone.
abbrev mutual
  pub default_of : PlainType → PlainValue
  default_of null_type = null
  default_of (boolean n) = truth false
  default_of (primitive p n) = int (pos 0)
  default_of (utf8 n) = bytes []
  default_of (binary n) = bytes []
  default_of (timestamp k n) = int (pos 0)
  default_of (structure fs n) = items (field_defaults fs)
  default_of (list t n) = items vals.none
  default_of (fixed_size_list t size n) = items (of_list (replicate size (if is_nullable t then null else default_of t)))

  -- for each field null where its type is nullable, else its default
  pub field_defaults : PlainFields → PlainValues
  field_defaults types.none = vals.none
  field_defaults (types.more name t fs) = vals.more (if is_nullable t then null else default_of t) (field_defaults fs)

-- `field_defaults`, over lists
abbrev pub field_list_defaults : List (List ℕ × PlainType) → List PlainValue
field_list_defaults fs = map (λ f. if is_nullable f.1 then null else default_of f.1) fs

-- null where the type is nullable, else its default
abbrev pub null_or_default : PlainType → PlainValue
null_or_default t = if is_nullable t then null else default_of t

-- the default in place of null, any other value as it is
abbrev pub or_default : PlainValue → PlainValue → PlainValue
or_default default v = if is_null v then default else v
