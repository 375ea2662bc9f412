use Rattle.std.proofs.Common.{◌-◌, ◌≡◌, ◌≤◌, ◌*◌, ◌^◌, length, map, take, pos}
use Rattle.vx_base.specs.Undelta.{total}
use Rattle.vx_rows.proofs.kernels.totals.unsigned_total.Given as goal

abbrev pub invariant-loop-start : goal.invariant-loop-start
invariant-loop-start g l = record {
  rows : l.start ≤ length l.items;
  sum : pos l.total ≡ total (take l.start (map g.T.Integer.whole l.items));
  most : l.total ≤ 2 ^ 64 * l.start;
}

abbrev pub decreases-loop-start : goal.decreases-loop-start
decreases-loop-start g l = l.len - l.start
