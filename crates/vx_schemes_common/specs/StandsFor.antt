-- What every way of making trees owes: that a tree stands for the column that it was made of.
use Rattle.std.specs.Prelude.{◌≡◌, ◌≤◌, ◌^◌, Bool, true, length, Option, Some}
use Rattle.vx_base.specs.PlainType.{PlainType}
use Rattle.vx_model.specs.Column.{Column, IsColumn, column_of}
use Rattle.vx_model.specs.Tree.{Tree}
use Rattle.vx_model.specs.WellFormed.{WellFormed}

-- the tree is well formed, and has the column's type and rows
abbrev pub StandsFor : Tree → Column → Type 0
StandsFor t c = WellFormed t × (column_of t ≡ c)

-- whatever is made of a column whose type is taken stands for it
abbrev pub AllStandFor : (PlainType → Bool) → (Column → Option Tree) → Type 0
AllStandFor takes made = (c : Column) (t : Tree) → takes c.dtype ≡ true → IsColumn c → length c.values ≤ 2 ^ 32 → made c ≡ Some t → StandsFor t c
