-- Pairs of cells, as they stand for extremes.
use Rattle.std.specs.Prelude.{Option, None, Some, IsTrue}
use Rattle.vx_base.specs.declared.cell.Cell.{Cell}
use Rattle.vx_base.specs.CellValue.{cell_value}
use Rattle.vx_base.specs.PlainScalar.{PlainScalar, scalar, fits}
use Rattle.vx_base.specs.PlainType.{PlainType}
use Rattle.vx_base.specs.PlainValue.{PlainValue}

-- the values in two cells
abbrev pub cell_pair : Option (Cell × Cell) → Option (PlainValue × PlainValue)
cell_pair None = None
cell_pair (Some p) = Some (cell_value p.0, cell_value p.1)

-- two values as scalars of a type
abbrev pub scalar_pair : PlainType → Option (PlainValue × PlainValue) → Option (PlainScalar × PlainScalar)
scalar_pair t None = None
scalar_pair t (Some p) = Some (scalar t p.0, scalar t p.1)

-- both values, where there are any, are of a type
abbrev pub FitPair : PlainType → Option (PlainValue × PlainValue) → Type 0
FitPair t None = Unit {0}
FitPair t (Some p) = IsTrue (fits t p.0) × IsTrue (fits t p.1)
