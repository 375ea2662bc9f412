use Rattle.std.proofs.Common.{◌≡◌, ◌++◌, List, length}
use Rattle.vx_base.specs.Masks.{rows_between}
use Rattle.vx_base.specs.PlainValue.{PlainValue, null}
use Rattle.vx_model.specs.Rows.{masked_rows}
use Rattle.vx_pieces.specs.Pieces.{Gives, repeated}
use Rattle.vx_pieces.proofs.within.add_blocks.Given as goal

abbrev pub invariant-loop-time : goal.invariant-loop-time
invariant-loop-time l =
    (values rows : List PlainValue) → length values ≡ length l.mask → Gives null l.initial.out.items values rows → Gives null l.out.items values (rows ++ repeated l._time (rows_between (masked_rows l.mask values) l.start l.end))
