-- A fill for most rows of a column, the rows that are patched, and the sparse tree over both.
use Rattle.std.specs.Prelude.{ℕ, ◌*◌, ℤ, pos, Bool, not, ◌||◌, ◌==◌, nat_lt, if◌then◌else◌, List, length, map, filter, Option, None, Some}
use Rattle.std.specs.List.{range_with_len}
use Rattle.vx_base.specs.declared.dtype.Nullability.TheVariants.{NonNullable}
use Rattle.vx_base.specs.declared.ptype.PType.{PType}
use Rattle.vx_base.specs.PlainScalar.{scalar}
use Rattle.vx_base.specs.PlainType as types
use Rattle.vx_base.specs.PlainValue.{PlainValue, null, int, is_null, same_value}
use Rattle.vx_model.specs.Column.{Column, column}
use Rattle.vx_model.specs.Plain.{plain}
use Rattle.vx_model.specs.Rows.{row_at}
use Rattle.vx_model.specs.Tree.{Tree, constant, sparse}
use Rattle.vx_stats.specs.Stats.{null_count}

-- a fill, and which values are patches
pub record Filling : Type 0 where
  pub fill : PlainValue
  pub patched : PlainValue → Bool

-- the null fill: each value is a patch
abbrev pub null_filling : Filling
null_filling = record { fill = null; patched = λ v. not (is_null v) }

-- a value as the fill: each other value is a patch, and each null, also where the fill is null
abbrev pub value_filling : PlainValue → Filling
value_filling fill = record { fill = fill; patched = λ v. is_null v || not (same_value v fill) }

-- an integer as the fill, else the null fill
abbrev pub filling_of : Option ℤ → Filling
filling_of (Some z) = value_filling (int z)
filling_of None = null_filling

-- more than 9 of 10 rows are null, as upstream has it
abbrev pub is_mostly_null : List PlainValue → Bool
is_mostly_null values = nat_lt (9 * length values) (10 * null_count values)

-- the numbers of the patched rows, ascending
abbrev pub patched_rows : Filling → List PlainValue → List ℕ
patched_rows f values = filter (λ i. f.patched (row_at values i)) (range_with_len 0 (length values))

-- the values of the patched rows
abbrev pub patch_values : Filling → Column → Column
patch_values f c = column c.dtype (map (row_at c.values) (patched_rows f c.values))

-- the numbers of the patched rows, as integers of a type
abbrev pub patch_indices : PType → Filling → Column → Column
patch_indices p f c = column (types.primitive p NonNullable) (map int (map pos (patched_rows f c.values)))

-- the sparse tree of a column over trees of the indices and of the values of its patches
abbrev pub filled_over : Filling → Column → Tree → Tree → Tree
filled_over f c indices values = sparse (length c.values) 0 indices values (scalar c.dtype f.fill)

-- the sparse tree over plain indices and values; a Constant of the fill where no row is patched
abbrev pub filled_tree : PType → Filling → Column → Tree
filled_tree p f c =
    if length (patched_rows f c.values) == 0 then constant (scalar c.dtype f.fill) (length c.values)
    else filled_over f c (plain (patch_indices p f c)) (plain (patch_values f c))
