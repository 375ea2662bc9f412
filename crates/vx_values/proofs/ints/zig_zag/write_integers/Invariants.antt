use Rattle.std.proofs.Common.{◌≡◌, map, take}
use Rattle.std.specs.Prelude.{unsigned_abs}
use Rattle.vx_base.specs.ZigZag.{unzigzag}
use Rattle.vx_values.proofs.ints.zig_zag.write_integers.Given as goal

abbrev pub invariant-loop-row : goal.invariant-loop-row
invariant-loop-row g l = map g.T.Integer.whole (take l.row l.items) ≡ map (λ z. unzigzag (unsigned_abs z)) (map g.W.Integer.whole (take l.row l.words))
