use Rattle.std.proofs.Common.{◌≡◌, [], map, take}
use Rattle.vx_model.specs.Decoded.{picked}
use Rattle.vx_values.proofs.byte_rows.picked_by.Given as goal

abbrev pub invariant-loop-row : goal.invariant-loop-row
invariant-loop-row g l = l.picked.items ≡ map (λ code. picked g.C.Integer.kind l.fn.rows [] code) (map g.C.Integer.whole (take l.row l.codes))
