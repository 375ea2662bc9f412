use Rattle.std.proofs.Common.{◌≡◌, pos, map, take}
use Rattle.vx_compressor.proofs.offsets.converted.Given as goal

abbrev pub invariant-loop-row : goal.invariant-loop-row
invariant-loop-row g l = map g.T.Integer.whole l.converted.items ≡ map pos (take l.row l.items)
