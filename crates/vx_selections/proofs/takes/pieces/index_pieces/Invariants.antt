use Rattle.std.proofs.Common.{◌≡◌, List, length, map, take}
use Rattle.vx_base.specs.PlainValue.{PlainValue, int}
use Rattle.vx_model.specs.Rows.{valid_rows}
use Rattle.vx_pieces.specs.Pieces.{Gives}
use Rattle.vx_values.specs.IntsOf.{wholes_of}
use Rattle.vx_selections.specs.Chosen.{rows_or}
use Rattle.vx_selections.proofs.takes.pieces.index_pieces.Given as goal

abbrev pub invariant-loop-row : goal.invariant-loop-row
invariant-loop-row l = (item : PlainValue) (values : List PlainValue) → length values ≡ l.len → Gives item l.pieces.items values (rows_or item values (take l.row (valid_rows l.valid (map int (wholes_of l.codes)))))
