use Rattle.std.proofs.Common.{◌≡◌, map, take}
use Rattle.vx_schemes_time.proofs.temporal.narrowing.write_converted.Given as goal

abbrev pub invariant-loop-row : goal.invariant-loop-row
invariant-loop-row g l = map g.T.Integer.whole (take l.row l.list) ≡ take l.row l.items
