-- What holds of the trees of columns, for every list of lawful schemes and any sample words.
use Rattle.std.specs.Prelude.{◌≡◌, nat_le, IsTrue, None}
use Rattle.std.specs.List.{AllByRecursion, list_all}
use Rattle.vx_model.specs.Cascade.{cascade}
use Rattle.vx_model.specs.Column.{Column, IsColumn, column_of}
use Rattle.vx_model.specs.Extents.{counts, extents, row_limit}
use Rattle.vx_model.specs.Refusals.{compress_refusal}
use Rattle.vx_model.specs.Rows.{rows}
use Rattle.vx_model.specs.Tree.{Tree}
use Rattle.vx_model.specs.TreeType.{tree_type}
use Rattle.vx_model.specs.WellFormed.{WellFormed}
use Rattle.vx_scheme.specs.Lawful.{Lawful}
use Rattle.vx_compressor.specs.Cascade.{Setting, leaf_tree}

-- each scheme of the setting is lawful
abbrev pub IsLawful : Setting → Type 0
IsLawful set = AllByRecursion Lawful set.schemes

-- a column that is compressed: its values fit its type, and none of its counts passes the row limit
pub record IsWithin (c : Column) : Type 0 where
  pub column : IsColumn c
  pub counts_fit : IsTrue (list_all (λ count. nat_le count row_limit) (counts c.dtype c.values))

-- the tree of a column has the column's rows and type
abbrev pub KeepsRowsAndType : Setting → Type 0
KeepsRowsAndType set = (c : Column) → IsWithin c → (rows (cascade (leaf_tree set) c) ≡ c.values) × (tree_type (cascade (leaf_tree set) c) ≡ c.dtype)

-- the column of a column's tree has the same tree
abbrev pub AgainTheSame : Setting → Type 0
AgainTheSame set = (c : Column) → IsWithin c → cascade (leaf_tree set) (column_of (cascade (leaf_tree set) c)) ≡ cascade (leaf_tree set) c

-- the extents of a column's tree are the counts of the column, so the tree is within the row limit as the column is
abbrev pub ExtentsAreCounts : Setting → Type 0
ExtentsAreCounts set = (c : Column) → IsWithin c → extents (cascade (leaf_tree set) c) ≡ counts c.dtype c.values

-- `compress` accepts the one tree and answers the other
pub record Compresses (set : Setting) (before after : Tree) : Type 0 where
  pub accepted : compress_refusal before ≡ None
  pub answer : after ≡ cascade (leaf_tree set) (column_of before)

-- what `compress` answers it accepts, and answers again
abbrev pub AnswersAreFixed : Setting → Type 0
AnswersAreFixed set = (before after : Tree) → WellFormed before → Compresses set before after → Compresses set after after

-- the law, for every setting of lawful schemes
abbrev pub Everywhere : (Setting → Type 0) → Type 0
Everywhere law = (set : Setting) → IsLawful set → law set
