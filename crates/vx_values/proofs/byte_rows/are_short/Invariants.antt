use Rattle.std.proofs.Common.{◌≡◌, true, take}
use Rattle.std.specs.List.{list_all}
use Rattle.vx_base.specs.PlainValue.{is_short}
use Rattle.vx_values.proofs.byte_rows.are_short.Given as goal

abbrev pub invariant-loop-row : goal.invariant-loop-row
invariant-loop-row l = list_all is_short (take l.row-index l.row-items) ≡ true
