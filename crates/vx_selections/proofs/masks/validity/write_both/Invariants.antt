use Rattle.std.proofs.Common.{◌≡◌, take}
use Rattle.vx_selections.specs.Narrowed.{both}
use Rattle.vx_selections.proofs.masks.validity.write_both.Given as goal

abbrev pub invariant-loop-row : goal.invariant-loop-row
invariant-loop-row l = take l.row l.out ≡ both (take l.row l.bits) (take l.row l.others)
