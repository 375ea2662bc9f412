-- Offsets between rows that are concatenated.
use Rattle.std.specs.Prelude.{ℕ, ◌+◌, pos, List, [], ◌∷◌, map, length}
use Rattle.vx_base.specs.declared.dtype.Nullability.TheVariants.{NonNullable}
use Rattle.vx_base.specs.declared.ptype.PType.TheVariants.{U64}
use Rattle.vx_base.specs.PlainType as types
use Rattle.vx_base.specs.PlainValue.{PlainValue, int, bytes_or_empty}
use Rattle.vx_model.specs.Column.{Column, column}

-- the offset of each row, and the end of the last one, where the first begins at `here`
abbrev pub offsets_from : {A : Type 0} → ℕ → List (List A) → List ℕ
offsets_from here [] = here ∷ []
offsets_from here (row ∷ rows) = here ∷ offsets_from (here + length row) rows

-- the prefix sums of the rows' lengths, from 0 on: one more than there are rows
abbrev pub offsets_of : {A : Type 0} → List (List A) → List ℕ
offsets_of rows = offsets_from 0 rows

-- the offsets as values
abbrev pub offset_values : {A : Type 0} → List (List A) → List PlainValue
offset_values rows = map int (map pos (offsets_of rows))

-- the offsets as a column of u64
abbrev pub offsets_column : {A : Type 0} → List (List A) → Column
offsets_column rows = column (types.primitive U64 NonNullable) (offset_values rows)

-- the bytes of each row of a column, none where the row is null
abbrev pub byte_rows_of : Column → List (List ℕ)
byte_rows_of c = map bytes_or_empty c.values
