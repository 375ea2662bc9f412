-- Unsigned numbers as a column of the narrowest unsigned type.
use Rattle.std.specs.Prelude.{ℕ, pos, List, [], ◌∷◌, find, fold, map, max, unwrap_or}
use Rattle.std.specs.List.{list_all}
use Rattle.vx_base.specs.declared.ptype.PType.{PType}
use Rattle.vx_base.specs.declared.ptype.PType.TheVariants.{U8, U16, U32, U64}
use Rattle.vx_base.specs.declared.dtype.Nullability.TheVariants.{NonNullable}
use Rattle.vx_base.specs.PlainScalar.{fits}
use Rattle.vx_base.specs.PlainType as types
use Rattle.vx_base.specs.PlainValue.{PlainValue, int}
use Rattle.vx_model.specs.Column.{Column, column}

-- the first of U8, U16 and U32 that holds every row, else U64
abbrev pub index_type : List PlainValue → PType
index_type values = unwrap_or (find (λ p. list_all (fits (types.primitive p NonNullable)) values) (U8 ∷ U16 ∷ U32 ∷ [])) U64

-- numbers as rows
abbrev pub number_rows : List ℕ → List PlainValue
number_rows numbers = map int (map pos numbers)

-- the column of numbers in the narrowest unsigned type that holds them
abbrev pub narrowed_numbers : List ℕ → Column
narrowed_numbers numbers = column (types.primitive (index_type (number_rows numbers)) NonNullable) (number_rows numbers)

-- the greatest of numbers, 0 where there are none
abbrev pub greatest : List ℕ → ℕ
greatest numbers = fold max 0 numbers
