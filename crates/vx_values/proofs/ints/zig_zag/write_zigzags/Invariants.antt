use Rattle.std.proofs.Common.{◌≡◌, map, take, pos}
use Rattle.vx_base.specs.ZigZag.{zigzag}
use Rattle.vx_values.proofs.ints.zig_zag.write_zigzags.Given as goal

abbrev pub invariant-loop-row : goal.invariant-loop-row
invariant-loop-row g l = map g.W.Integer.whole (take l.row l.words) ≡ map (λ z. pos (zigzag z)) (map g.T.Integer.whole (take l.row l.items))
