-- The parts of a column as their plain trees.
use Rattle.std.specs.Prelude.{◌≡◌, List, [], ◌∷◌, map, All}
use Rattle.std.specs.List.{AllByRecursion}
use Rattle.std.proofs.Common.{◌∙◌, ap, refl}
use Rattle.std.proofs.lemmas.List.Elements.{recursion_from_All}
use Rattle.vx_model.specs.Column.{Column, column_of}
use Rattle.vx_model.specs.Plain.{plain}
use Rattle.vx_model.specs.Site.{Site}
use Rattle.vx_model.specs.Tree.{Tree}
use Rattle.vx_model.proofs.PlainLemmas.{column_of-plain}
use Rattle.vx_scheme.specs.Asked.{IsAsked, FitParts}
use Rattle.vx_scheme.specs.Lawful.{Lawful, IsPart}
use Rattle.vx_scheme.specs.Meaning.{Meaning, PlainSplit, kept, finished, parts, split_of}
use Rattle.vx_scheme.specs.declared.split.Split.TheVariants.{Parts}

by_each : (c : Column) (columns : List Column) → AllByRecursion (IsPart c) columns → map column_of (map plain columns) ≡ columns
by_each c [] h = refl
by_each c (part ∷ columns) h = λ i. column_of-plain part h.0.column i ∷ by_each c columns h.1 i

-- the plain trees of parts stand for them
pub parts-plain : (c : Column) (columns : List Column) → All (IsPart c) columns → map column_of (map plain columns) ≡ columns
parts-plain c columns h = by_each c columns (recursion_from_All (IsPart c) columns h)

-- so they are trees of the parts of the column
pub parts_fit : (m : Meaning) → Lawful m → (c : Column) (site : Site) (trees : List Tree) → IsAsked m c → Parts trees ≡ split_of (m.splits c site) → FitParts (m.splits c site) trees
parts_fit m lawful c site trees asked made = by_split (m.splits c site) refl made
  where
    by_split : (s : PlainSplit) → m.splits c site ≡ s → Parts trees ≡ split_of s → FitParts s trees
    by_split kept e is = absurd cc
    by_split (finished tree) e is = absurd cc
    by_split (parts columns) e is =
        let same : trees ≡ map plain columns = cc in
        ap (map column_of) same ∙ parts-plain c columns (lawful.small_parts c site columns asked e)
