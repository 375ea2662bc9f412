use Rattle.std.proofs.Common.{◌≡◌, ◌≤◌, ◌-◌, ◌+◌, ◌*◌, ◌^◌, ◌+ℤ◌, take, pos}
use Rattle.vx_base.specs.Undelta.{total}
use Rattle.vx_rows.proofs.TotalLemmas.{terms}
use Rattle.vx_rows.proofs.kernels.totals.block_total_of_valid.Given as goal

abbrev pub invariant-loop-row : goal.invariant-loop-row
invariant-loop-row g l = record {
  from : l.start ≤ l.row;
  low : l.low + (l.row - l.start) ≤ 2 ^ 32 * (l.row - l.start);
  high : l.high + (l.row - l.start) ≤ 2 ^ 32 * (l.row - l.start);
  sum : total (take l.start (terms g.T.Integer.whole l.items l.mask)) +ℤ pos (l.low + 2 ^ 32 * l.high) ≡ total (take l.row (terms g.T.Integer.whole l.items l.mask));
}
