-- Schemes with one part: a part of a column, or the column stays plain.
use Rattle.std.specs.Prelude.{◌≡◌, ◌≤◌, Bool, true, if◌then◌else◌, List, [], ◌∷◌, length}
use Rattle.vx_base.specs.PlainType.{PlainType}
use Rattle.vx_model.specs.Column.{Column, IsColumn, column_of}
use Rattle.vx_model.specs.Plain.{plain}
use Rattle.vx_model.specs.Tree.{Tree}
use Rattle.vx_model.specs.WellFormed.{WellFormed}
use Rattle.vx_scheme.specs.Asked.{most_rows}
use Rattle.vx_scheme.specs.Lawful.{IsPart}
use Rattle.vx_scheme.specs.Meaning.{PlainSplit, kept, parts}
use Rattle.vx_schemes_common.specs.StandsFor.{StandsFor}

-- the part, where the test is true; else the column stays plain
abbrev pub part_where : Bool → Column → PlainSplit
part_where test part = if test then parts (part ∷ []) else kept

-- the wrapper over the part's tree; plain where there is none
abbrev pub over_part : (Column → Tree → Tree) → Column → List Tree → Tree
over_part wrap c [] = plain c
over_part wrap c (tree ∷ trees) = wrap c tree

-- for every column that is taken and passes the test: its part is a lawful part (of a column of at most most_rows rows), and the wrapper over any well-formed tree of the part stands for the column
pub record PartStands (takes : PlainType → Bool) (test : Column → Bool) (part : Column → Column) (wrap : Column → Tree → Tree) : Type 0 where
  pub is_part : (c : Column) → takes c.dtype ≡ true → IsColumn c → length c.values ≤ most_rows → test c ≡ true → IsPart c (part c)
  pub stands : (c : Column) (tree : Tree) → takes c.dtype ≡ true → IsColumn c → test c ≡ true → WellFormed tree → column_of tree ≡ part c → StandsFor (wrap c tree) c
