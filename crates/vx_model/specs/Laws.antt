-- Laws of the cascade, over any way to make the tree of a leaf column.
use Rattle.std.specs.Prelude.{◌≡◌, ◌≤◌, ℕ, List}
use Rattle.std.specs.List.{AllZip}
use Rattle.vx_model.specs.Tree.{Tree}
use Rattle.vx_model.specs.TreeType.{tree_type}
use Rattle.vx_model.specs.Rows.{rows}
use Rattle.vx_model.specs.Size.{size}
use Rattle.vx_model.specs.Column.{Column, column_of}
use Rattle.vx_model.specs.WellFormed.{WellFormed}
use Rattle.vx_model.specs.Extents.{counts, extents}
use Rattle.vx_model.specs.Plain.{plain}
use Rattle.vx_model.specs.Cascade.{Leaves, cascade}

-- the tree of a column is no larger than the plain tree
abbrev pub NeverLarger : Leaves → Type 0
NeverLarger leaves = (c : Column) → size (cascade leaves c) ≤ size (plain c)

-- trees with equal columns become equal trees, whatever their encodings
abbrev pub ByTheColumnAlone : Leaves → Type 0
ByTheColumnAlone leaves = (s t : Tree) → column_of s ≡ column_of t → cascade leaves (column_of s) ≡ cascade leaves (column_of t)

-- numbers are at most other numbers, index by index
abbrev pub AreWithin : List ℕ → List ℕ → Type 0
AreWithin ms ns = AllZip (λ m n. m ≤ n) ms ns

-- the counts of a tree's column are at most the tree's extents
abbrev pub CountsWithinExtents : Type 0
CountsWithinExtents = (t : Tree) → WellFormed t → AreWithin (counts (tree_type t) (rows t)) (extents t)
