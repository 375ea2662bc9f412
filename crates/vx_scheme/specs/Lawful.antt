-- The laws of schemes: lossless trees, and few and small parts.
use Rattle.std.specs.Prelude.{◌≡◌, ◌≤◌, ◌+◌, true, List, length, map, All}
use Rattle.vx_base.specs.PlainType.{is_leaf}
use Rattle.vx_model.specs.Column.{Column, IsColumn, column_of}
use Rattle.vx_model.specs.Site.{Site}
use Rattle.vx_model.specs.Tree.{Tree}
use Rattle.vx_model.specs.WellFormed.{WellFormed}
use Rattle.vx_scheme.specs.Meaning.{Meaning, finished, parts}
use Rattle.vx_scheme.specs.Asked.{IsAsked}

-- a part of a column: a leaf column of at most 1,024 rows more
pub record IsPart (c part : Column) : Type 0 where
  pub column : IsColumn part
  pub leaf : is_leaf part.dtype ≡ true
  pub rows : length part.values ≤ length c.values + 1024

-- the laws that every scheme proves of its meaning
pub record Lawful (m : Meaning) : Type 0 where
  -- a finished tree is well formed and has the type and the rows of the column
  pub finished_well : (c : Column) (site : Site) (tree : Tree) → IsAsked m c → m.splits c site ≡ finished tree → WellFormed tree × (column_of tree ≡ c)
  -- so is a joined tree, over well-formed trees with the types and the rows of the parts
  pub joined_well : (c : Column) (site : Site) (columns : List Column) (trees : List Tree) → IsAsked m c → m.splits c site ≡ parts columns
      → All WellFormed trees → map column_of trees ≡ columns → WellFormed (m.joined c site trees) × (column_of (m.joined c site trees) ≡ c)
  -- at most `children` parts, each of them small
  pub few_parts : (c : Column) (site : Site) (columns : List Column) → IsAsked m c → m.splits c site ≡ parts columns → length columns ≤ m.children
  pub small_parts : (c : Column) (site : Site) (columns : List Column) → IsAsked m c → m.splits c site ≡ parts columns → All (IsPart c) columns
