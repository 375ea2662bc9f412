use Rattle.std.proofs.Common.{◌≡◌, map, take, pos, get_or}
use Rattle.vx_values.proofs.ints.gathering.gathered_rows.Given as goal

abbrev pub invariant-loop-place : goal.invariant-loop-place
invariant-loop-place g l = map g.T.Integer.whole l.gathered.items ≡ map (λ row. get_or (map g.T.Integer.whole l.items) row (pos 0)) (take l.place l.rows)
