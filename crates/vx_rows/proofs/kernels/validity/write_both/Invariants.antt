use Rattle.std.proofs.Common.{◌≡◌, take}
use Rattle.std.specs.Prelude.{◌&&◌}
use Rattle.vx_rows.specs.Pairs.{each_pair}
use Rattle.vx_rows.proofs.kernels.validity.write_both.Given as goal

abbrev pub invariant-loop-row : goal.invariant-loop-row
invariant-loop-row l = take l.row l.both ≡ each_pair (λ a b. a && b) (take l.row l.bits) (take l.row l.others)
