use Rattle.std.proofs.Common.{◌≡◌, fold, map, take}
use Rattle.std.specs.Ordering.{int_cmp, ord_max, ord_min}
use Rattle.vx_rows.specs.Extremes.{valid_items}
use Rattle.vx_rows.proofs.kernels.bounds.valid_extremes.Given as goal

abbrev pub invariant-loop-row : goal.invariant-loop-row
invariant-loop-row g l = record {
  least : g.T.Integer.whole l.least ≡ fold (ord_min int_cmp) (g.T.Integer.whole l.fn.first) (valid_items (take l.row l.mask) (take l.row (map g.T.Integer.whole l.items)));
  greatest : g.T.Integer.whole l.greatest ≡ fold (ord_max int_cmp) (g.T.Integer.whole l.fn.first) (valid_items (take l.row l.mask) (take l.row (map g.T.Integer.whole l.items)));
}
