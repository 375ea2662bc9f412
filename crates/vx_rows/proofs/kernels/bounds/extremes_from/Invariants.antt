use Rattle.std.proofs.Common.{◌≡◌, fold, map, take}
use Rattle.std.specs.Ordering.{int_cmp, ord_max, ord_min}
use Rattle.vx_rows.proofs.kernels.bounds.extremes_from.Given as goal

abbrev pub invariant-loop-row : goal.invariant-loop-row
invariant-loop-row g l = record {
  least : g.T.Integer.whole l.least ≡ fold (ord_min int_cmp) (g.T.Integer.whole l.fn.first) (map g.T.Integer.whole (take l.row l.items));
  greatest : g.T.Integer.whole l.greatest ≡ fold (ord_max int_cmp) (g.T.Integer.whole l.fn.first) (map g.T.Integer.whole (take l.row l.items));
}
