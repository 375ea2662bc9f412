use Rattle.std.proofs.Common.{◌≡◌, ◌≤◌, ◌-◌, ◌++◌, List, length}
use Rattle.vx_base.specs.Masks.{rows_between}
use Rattle.vx_base.specs.PlainValue.{PlainValue, null}
use Rattle.vx_model.specs.Rows.{masked_rows}
use Rattle.vx_pieces.specs.Pieces.{Gives}
use Rattle.vx_pieces.proofs.within.add_part.Given as goal

abbrev pub decreases-loop-row : goal.decreases-loop-row
decreases-loop-row l = l.end - l.row

abbrev pub invariant-loop-row : goal.invariant-loop-row
invariant-loop-row l =
    (l.start ≤ l.row) × (l.row ≤ l.end)
    × ((values rows : List PlainValue) → length values ≡ length l.mask → Gives null l.initial.out.items values rows → Gives null l.out.items values (rows ++ rows_between (masked_rows l.mask values) l.start l.row))
