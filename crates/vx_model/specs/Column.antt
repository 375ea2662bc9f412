-- Columns: a type and a list of values.
use Rattle.std.specs.Prelude.{List, IsTrue}
use Rattle.std.specs.List.{list_all}
use Rattle.vx_base.specs.PlainType.{PlainType}
use Rattle.vx_base.specs.PlainValue.{PlainValue}
use Rattle.vx_base.specs.PlainScalar.{fits}
use Rattle.vx_model.specs.Tree.{Tree}
use Rattle.vx_model.specs.TreeType.{tree_type}
use Rattle.vx_model.specs.Rows.{rows}

-- a type and its values, row by row
pub record Column : Type 0 where
  pub dtype : PlainType
  pub values : List PlainValue

-- a column from its type and values
abbrev pub column : PlainType → List PlainValue → Column
column t vs = record { dtype = t; values = vs }

-- each value is of the type
abbrev pub IsColumn : Column → Type 0
IsColumn c = IsTrue (list_all (fits c.dtype) c.values)

-- the column that a tree stands for
abbrev pub column_of : Tree → Column
column_of t = column (tree_type t) (rows t)
