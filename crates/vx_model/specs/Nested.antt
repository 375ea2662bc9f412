-- The columns within a column of structs or lists.
use Rattle.std.specs.Prelude.{ℕ, pos, List, [], ◌∷◌, ◌++◌, map, unwrap_or}
use Rattle.vx_base.specs.declared.ptype.PType.{PType}
use Rattle.vx_base.specs.declared.ptype.PType.TheVariants.{U64}
use Rattle.vx_base.specs.declared.dtype.Nullability.TheVariants.{NonNullable}
use Rattle.vx_base.specs.Defaults.{default_of, field_defaults, or_default}
use Rattle.vx_base.specs.Narrow.{narrow_of}
use Rattle.vx_base.specs.PlainType.{PlainType, PlainFields}
use Rattle.vx_base.specs.PlainType as types
use Rattle.vx_base.specs.PlainValue.{PlainValue, PlainValues, null, items, items_or_empty}
use Rattle.vx_base.specs.PlainValue as vals

-- the items of a list or the field values of a struct, none of any other value
abbrev pub within : PlainValue → PlainValues
within (items vs) = vs
within _ = vals.none

-- the first value, null where there is none
abbrev pub first_within : PlainValues → PlainValue
first_within vals.none = null
first_within (vals.more v vs) = v

-- the values after the first
abbrev pub rest_within : PlainValues → PlainValues
rest_within vals.none = vals.none
rest_within (vals.more v vs) = vs

-- the field values of each struct, and in place of null those of the default
abbrev pub struct_rows : PlainFields → List PlainValue → List PlainValues
struct_rows fs values = map (λ v. within (or_default (items (field_defaults fs)) v)) values

-- the names of fields
abbrev pub names_of : PlainFields → List (List ℕ)
names_of types.none = []
names_of (types.more name t fs) = name ∷ names_of fs

-- the items of each list, and none in place of null
abbrev pub list_rows : List PlainValue → List (List PlainValue)
list_rows values = map items_or_empty values

-- lists concatenated
abbrev pub concatenated : {A : Type 0} → List (List A) → List A
concatenated [] = []
concatenated (row ∷ rows) = row ++ concatenated rows

-- the elements of all lists, one list after another
abbrev pub elements : List PlainValue → List PlainValue
elements values = concatenated (list_rows values)

-- lists of fixed size, with the default in place of null
abbrev pub fixed_rows : PlainType → ℕ → List PlainValue → List PlainValue
fixed_rows t size values = map (or_default (default_of (types.fixed_size_list t size NonNullable))) values

-- the elements of these lists, one list after another
abbrev pub fixed_elements : PlainType → ℕ → List PlainValue → List PlainValue
fixed_elements t size values = elements (fixed_rows t size values)

-- the narrowest unsigned type with `end` in range
abbrev pub offsets_type : ℕ → PType
offsets_type end = unwrap_or (narrow_of (pos 0) (pos end)) U64
