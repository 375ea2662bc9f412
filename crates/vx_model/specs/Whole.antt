-- The plain trees that compression takes apart, and the plain offsets within.
use Rattle.std.specs.Prelude.{◌≡◌, ◌≤◌, ◌+◌, ℕ, true, nat_le, List, length}
use Rattle.std.specs.List.{list_all}
use Rattle.vx_base.specs.declared.ptype.PType.TheVariants.{U64}
use Rattle.vx_base.specs.declared.dtype.Nullability.TheVariants.{NonNullable}
use Rattle.vx_base.specs.PlainType.{primitive}
use Rattle.vx_base.specs.PlainValue.{PlainValue}
use Rattle.vx_model.specs.Column.{Column, IsColumn, column, column_of}
use Rattle.vx_model.specs.Extents.{counts, row_limit}
use Rattle.vx_model.specs.Nested.{offsets_type}
use Rattle.vx_model.specs.Plain.{IsPlain}
use Rattle.vx_model.specs.Rows.{rows}
use Rattle.vx_model.specs.Tree.{Tree}
use Rattle.vx_model.specs.TreeType.{tree_type}
use Rattle.vx_model.specs.WellFormed.{lies_between}

-- the plain tree of a column of fitting values, which is within the row limit, as is each column within
pub record IsWhole (t : Tree) : Type 0 where
  pub plain : IsPlain t
  pub column : IsColumn (column_of t)
  pub few : list_all (λ count. nat_le count row_limit) (counts (tree_type t) (rows t)) ≡ true

-- plain u64 offsets, none above `end`
pub record ArePlainOffsets (offsets : Tree) (end : ℕ) : Type 0 where
  pub plain : IsPlain offsets
  pub typed : tree_type offsets ≡ primitive U64 NonNullable
  pub between : list_all (lies_between 0 (end + 1)) (rows offsets) ≡ true
  pub few : length (rows offsets) ≤ row_limit + 1

-- offsets up to `end`, in the narrowest unsigned type with `end` in range
abbrev pub narrowed : ℕ → List PlainValue → Column
narrowed end offsets = column (primitive (offsets_type end) NonNullable) offsets
