-- Where the values of a column alone decide its tree, whichever scheme would be chosen.
use Rattle.std.specs.Prelude.{◌≡◌, ◌<◌, length, Option, None, Some, unwrap_or}
use Rattle.vx_model.specs.Column.{Column}
use Rattle.vx_model.specs.Leaf.{Chooses, leaf, chosen_or_plain}
use Rattle.vx_model.specs.Site.{Site}
use Rattle.vx_model.specs.Tree.{Tree}
use Rattle.vx_scheme.specs.Asked.{HasValue}

-- the chosen scheme decides: the column has rows and a value
pub record IsOpen (c : Column) (site : Site) : Type 0 where
  pub value : HasValue c
  pub some : 0 < length c.values
  pub chosen : (chooses : Chooses) → chosen_or_plain c (chooses c site) ≡ leaf chooses c site

-- the tree, whatever scheme would be chosen, or that the chosen one decides
abbrev pub IsByValue : Column → Site → Option Tree → Type 0
IsByValue c site (Some tree) = (chooses : Chooses) → tree ≡ leaf chooses c site
IsByValue c site None = IsOpen c site

-- The tree that stands at a site, beside the plain tree of its column: another one, or the plain tree where there is none.
abbrev pub IsBeside : Tree → Tree → Option Tree → Tree → Type 0
IsBeside stands own tree plain = (unwrap_or tree plain ≡ stands) × (plain ≡ own)
