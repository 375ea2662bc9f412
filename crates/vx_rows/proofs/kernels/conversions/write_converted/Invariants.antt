use Rattle.std.proofs.Common.{◌≡◌, map, take}
use Rattle.vx_rows.specs.Conversions.{whole_or_zero_in}
use Rattle.vx_rows.proofs.kernels.conversions.write_converted.Given as goal

abbrev pub invariant-loop-row : goal.invariant-loop-row
invariant-loop-row g l = map g.U.Integer.whole (take l.row l.out) ≡ map (whole_or_zero_in g.U.Integer.kind) (map g.T.Integer.whole (take l.row l.items))
