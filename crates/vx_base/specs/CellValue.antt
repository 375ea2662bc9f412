-- Cells as plain values.
use Rattle.vx_base.specs.declared.cell.Cell.{Cell}
use Rattle.vx_base.specs.declared.cell.Cell.TheVariants.{Null, Bool, Int, Bytes}
use Rattle.vx_base.specs.PlainValue.{PlainValue, null, truth, int, bytes}

-- the value in a cell
abbrev pub cell_value : Cell → PlainValue
cell_value Null = null
cell_value (Bool b) = truth b
cell_value (Int z) = int z
cell_value (Bytes bs) = bytes bs.now
