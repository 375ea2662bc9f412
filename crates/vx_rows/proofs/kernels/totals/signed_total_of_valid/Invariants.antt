use Rattle.std.proofs.Common.{◌≡◌, take, true}
use Rattle.std.specs.List.{list_all}
use Rattle.vx_base.specs.Integers.{lies_in}
use Rattle.vx_base.specs.Undelta.{total}
use Rattle.vx_rows.proofs.TotalLemmas.{terms}
use Rattle.vx_rows.proofs.kernels.totals.signed_total_of_valid.Given as goal

abbrev pub invariant-loop-row : goal.invariant-loop-row
invariant-loop-row g l = record {
  sum : l.total ≡ total (take l.row (terms g.T.Integer.whole l.items l.mask));
  held : list_all (lies_in g.T.Integer.kind) (take l.row (terms g.T.Integer.whole l.items l.mask)) ≡ true;
}
