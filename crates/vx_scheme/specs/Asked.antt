-- What a scheme may be asked about.
use Rattle.std.specs.Prelude.{◌≡◌, ◌<◌, ◌≤◌, ◌+◌, ◌*◌, ◌^◌, ℕ, true, false, List, length, map}
use Rattle.std.specs.List.{list_all}
use Rattle.vx_base.specs.PlainValue.{is_null}
use Rattle.vx_model.specs.Column.{Column, IsColumn, column_of}
use Rattle.vx_model.specs.Plain.{IsPlain}
use Rattle.vx_model.specs.Rows.{rows}
use Rattle.vx_model.specs.Site.{Site, max_cascade}
use Rattle.vx_model.specs.Tree.{Tree}
use Rattle.vx_scheme.specs.Meaning.{Meaning, PlainSplit, kept, finished, parts, parts_of}
use Rattle.vx_scheme.specs.declared.estimate.CompressionEstimate.TheVariants.{Deferred}
use Rattle.vx_scheme.specs.declared.estimate.DeferredEstimate.TheVariants.{Callback}

-- the row limit of a column at any site: the row limit of compression, 2^31, 1 for the offsets of a list, and 1,024 for each of
-- max_cascade + 1 levels of parts
abbrev pub most_rows : ℕ
most_rows = 2 ^ 31 + 1 + 1024 * (max_cascade + 1)

-- a plain tree that a scheme may be given
pub record IsSiteTree (tree : Tree) : Type 0 where
  pub plain : IsPlain tree
  pub some : 0 < length (rows tree)
  pub few : length (rows tree) ≤ most_rows

-- a column that a scheme estimates and splits: of a type that it takes, with at least one row
pub record IsAsked (m : Meaning) (c : Column) : Type 0 where
  pub column : IsColumn c
  pub taken : m.takes c.dtype ≡ true
  pub some : 0 < length c.values
  pub few : length c.values ≤ most_rows

-- the estimate of the scheme is to be asked again
abbrev pub HasPutOff : Meaning → Column → Site → Type 0
HasPutOff m c site = m.estimate c site ≡ Deferred Callback

-- the column was split into parts
abbrev pub HasParts : PlainSplit → Type 0
HasParts kept = ⊥
HasParts (finished tree) = ⊥
HasParts (parts columns) = Unit {0}

-- one tree for each part, with that part's type and rows
abbrev pub FitParts : PlainSplit → List Tree → Type 0
FitParts made trees = map column_of trees ≡ parts_of made

-- some row has a value
abbrev pub HasValue : Column → Type 0
HasValue c = list_all is_null c.values ≡ false
