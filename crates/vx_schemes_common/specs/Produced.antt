-- The encodings of the trees that a scheme makes.
use Rattle.std.specs.Prelude.{◌≡◌, ◌⊎◌, true, List}
use Rattle.vx_model.specs.Column.{Column}
use Rattle.vx_model.specs.Nodes.{encoding}
use Rattle.vx_model.specs.Plain.{plain}
use Rattle.vx_model.specs.Site.{Site}
use Rattle.vx_model.specs.Tree.{Tree}
use Rattle.vx_scheme.specs.Meaning.{Meaning, finished}

-- a tree is a column's plain one, or has an encoding that the scheme produces
abbrev pub IsProduced : Meaning → Column → Tree → Type 0
IsProduced m c tree = (tree ≡ plain c) ⊎ (m.produces (encoding tree) ≡ true)

-- what a scheme itself makes: a tree that it finishes has an encoding that it produces, and one that it joins has one too, or is the column's plain tree
pub record MakesProduced (m : Meaning) : Type 0 where
  pub by_finishing : (c : Column) (site : Site) (tree : Tree) → m.splits c site ≡ finished tree → m.produces (encoding tree) ≡ true
  pub by_joining : (c : Column) (site : Site) (trees : List Tree) → IsProduced m c (m.joined c site trees)
