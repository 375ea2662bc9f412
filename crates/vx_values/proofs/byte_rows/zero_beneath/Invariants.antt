use Rattle.std.proofs.Common.{◌≡◌, [], take}
use Rattle.vx_model.specs.Decoded.{zeroed}
use Rattle.vx_values.proofs.byte_rows.zero_beneath.Given as goal

abbrev pub invariant-loop-row : goal.invariant-loop-row
invariant-loop-row l = l.rows ≡ zeroed [] (take l.row l.mask) l.initial.rows
