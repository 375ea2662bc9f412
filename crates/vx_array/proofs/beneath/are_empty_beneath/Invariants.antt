use Rattle.std.proofs.Common.{◌≡◌, length, take, true}
use Rattle.std.specs.Prelude.{◌==◌}
use Rattle.vx_model.specs.Decoded.{zero_beneath}
use Rattle.vx_model.specs.Rows.{rows, cut_at}
use Rattle.vx_array.proofs.beneath.are_empty_beneath.Given as goal

abbrev pub invariant-loop-row : goal.invariant-loop-row
invariant-loop-row l = zero_beneath (λ part. length part == 0) (take l.row l.bits) (cut_at (rows l.offsets) (rows l.elements)) ≡ true
