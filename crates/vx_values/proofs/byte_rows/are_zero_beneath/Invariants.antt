use Rattle.std.proofs.Common.{◌≡◌, true, take}
use Rattle.vx_model.specs.Decoded.{zero_beneath, is_empty}
use Rattle.vx_values.proofs.byte_rows.are_zero_beneath.Given as goal

abbrev pub invariant-loop-row : goal.invariant-loop-row
invariant-loop-row l = zero_beneath is_empty (take l.row l.mask) l.rows ≡ true
