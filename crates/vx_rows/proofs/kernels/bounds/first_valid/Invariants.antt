use Rattle.std.proofs.Common.{◌≡◌, [], map, take}
use Rattle.vx_rows.specs.Extremes.{valid_items}
use Rattle.vx_rows.proofs.kernels.bounds.first_valid.Given as goal

abbrev pub invariant-loop-row : goal.invariant-loop-row
invariant-loop-row g l = valid_items (take l.row l.mask) (take l.row (map g.T.Integer.whole l.items)) ≡ []
