use Rattle.std.proofs.Common.{◌≡◌, ◌≤◌, ◌-◌, ◌+◌, ◌*◌, ◌^◌, ◌+ℤ◌, map, take, pos}
use Rattle.vx_base.specs.Undelta.{total}
use Rattle.vx_rows.proofs.kernels.totals.block_total.Given as goal

abbrev pub invariant-loop-row : goal.invariant-loop-row
invariant-loop-row g l = record {
  from : l.start ≤ l.row;
  low : l.low + (l.row - l.start) ≤ 2 ^ 32 * (l.row - l.start);
  high : l.high + (l.row - l.start) ≤ 2 ^ 32 * (l.row - l.start);
  sum : total (take l.start (map g.T.Integer.whole l.items)) +ℤ pos (l.low + 2 ^ 32 * l.high) ≡ total (take l.row (map g.T.Integer.whole l.items));
}
