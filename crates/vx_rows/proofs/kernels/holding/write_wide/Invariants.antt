use Rattle.std.proofs.Common.{◌≡◌, map, take}
use Rattle.vx_rows.specs.Pairs.{whole_holds}
use Rattle.vx_rows.proofs.kernels.holding.write_wide.Given as goal

abbrev pub invariant-loop-row : goal.invariant-loop-row
invariant-loop-row g l = take l.row l.bits ≡ map (whole_holds l.operator l.whole) (map g.T.Integer.whole (take l.row l.items))
