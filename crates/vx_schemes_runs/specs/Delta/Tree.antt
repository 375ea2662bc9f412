-- What the delta scheme makes of a column of integers: the base of each block of 1,024 rows, and the differences from row to
-- row. A null has the last value before it; before the first value it has 0.
use Rattle.std.specs.Prelude.{ℤ, List, length, map, Option, None, Some}
use Rattle.vx_base.specs.declared.dtype.Nullability.TheVariants.{NonNullable}
use Rattle.vx_base.specs.IntegersIn.{integer_in}
use Rattle.vx_base.specs.PlainType.{integer_of, nullability_of}
use Rattle.vx_base.specs.PlainType as types
use Rattle.vx_base.specs.PlainValue.{int}
use Rattle.vx_blocks.specs.Deltas.{bases, deltas, filled}
use Rattle.vx_model.specs.Column.{Column, column}
use Rattle.vx_model.specs.Plain.{plain, validity}
use Rattle.vx_model.specs.Tree.{Tree, delta}

-- integers of the column's type, none of them null
abbrev pub whole_column : Column → List ℤ → Column
whole_column c numbers = column (types.primitive (integer_of c.dtype) NonNullable) (map int numbers)

-- the rows as integers, each null filled with the value before it
abbrev pub filled_rows : Column → List ℤ
filled_rows c = filled (map integer_in c.values)

-- the differences from row to row, in whole blocks
abbrev pub differences_of : Column → List ℤ
differences_of c = deltas (integer_of c.dtype) (filled_rows c)

-- the first row of each block
abbrev pub delta_bases : Column → Column
delta_bases c = whole_column c (bases (filled_rows c))

-- the differences as a column
abbrev pub delta_differences : Column → Column
delta_differences c = whole_column c (differences_of c)

-- the delta of the pair, bases first, then differences, null where the column is; plain unless there are two trees
abbrev pub delta_or_plain : Column → Option (Tree × Tree) → Tree
delta_or_plain c None = plain c
delta_or_plain c (Some pair) = delta pair.0 pair.1 (length c.values) (validity c.values) (nullability_of c.dtype)
