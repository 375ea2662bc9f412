use Rattle.std.proofs.Common.{◌≡◌, map, take, pos}
use Rattle.vx_model.specs.Decoded.{picked}
use Rattle.vx_values.proofs.ints.dictionary.picked.Given as goal

abbrev pub invariant-loop-row : goal.invariant-loop-row
invariant-loop-row g l = map g.T.Integer.whole l.picked.items ≡ map (λ code. picked g.C.Integer.kind (map g.T.Integer.whole l.fn.items) (pos 0) code) (map g.C.Integer.whole (take l.row l.codes))
