use Rattle.std.proofs.Common.{◌≡◌, false, map, take}
use Rattle.vx_model.specs.Decoded.{picked}
use Rattle.vx_values.proofs.bits.picked_by.Given as goal

abbrev pub invariant-loop-row : goal.invariant-loop-row
invariant-loop-row g l = l.picked.items ≡ map (λ code. picked g.C.Integer.kind l.fn.bits false code) (map g.C.Integer.whole (take l.row l.codes))
