-- The narrowest integer type for the values of a column, and the column in it.
use Rattle.std.specs.Prelude.{Bool, List, [], ◌∷◌, find, unwrap_or}
use Rattle.std.specs.List.{list_all}
use Rattle.vx_base.specs.declared.dtype.Nullability.{Nullability}
use Rattle.vx_base.specs.declared.ptype.PType.{PType}
use Rattle.vx_base.specs.declared.ptype.PType.TheVariants.{U8, U16, U32, U64, I8, I16, I32, I64}
use Rattle.vx_base.specs.PlainScalar.{fits}
use Rattle.vx_base.specs.PlainType.{nullability_of}
use Rattle.vx_base.specs.PlainType as types
use Rattle.vx_base.specs.PlainValue.{PlainValue}
use Rattle.vx_model.specs.Column.{Column, column}

-- whether each value is one of an integer type of this nullability
abbrev pub all_fit : Nullability → List PlainValue → PType → Bool
all_fit n values p = list_all (fits (types.primitive p n)) values

-- The first type that holds every value, unsigned ones before signed ones, and I64 where none of these does. Null fits each of
-- them, so nulls alone give U8.
abbrev pub narrowest : Nullability → List PlainValue → PType
narrowest n values = unwrap_or (find (all_fit n values) (U8 ∷ U16 ∷ U32 ∷ U64 ∷ I8 ∷ I16 ∷ I32 ∷ [])) I64

-- a column of integers in the narrowest type; nullability and rows stay
abbrev pub narrowed : Column → Column
narrowed c = column (types.primitive (narrowest (nullability_of c.dtype) c.values) (nullability_of c.dtype)) c.values
