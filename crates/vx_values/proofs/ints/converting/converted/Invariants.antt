use Rattle.std.proofs.Common.{◌≡◌, map, take}
use Rattle.vx_values.proofs.ints.converting.converted.Given as goal

abbrev pub invariant-loop-row : goal.invariant-loop-row
invariant-loop-row g l = map g.U.Integer.whole l.converted.items ≡ map g.T.Integer.whole (take l.row l.items)
