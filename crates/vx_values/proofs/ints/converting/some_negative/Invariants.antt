use Rattle.std.proofs.Common.{◌≡◌, pos, map, take}
use Rattle.std.specs.Prelude.{int_lt}
use Rattle.std.specs.List.{list_any}
use Rattle.vx_values.proofs.ints.converting.some_negative.Given as goal

abbrev pub invariant-loop-item : goal.invariant-loop-item
invariant-loop-item g l = l.some ≡ list_any (λ z. int_lt z (pos 0)) (map g.T.Integer.whole (take l.item-index l.items))
