use Rattle.std.proofs.Common.{◌≡◌, ◌≤◌, ◌-◌, drop, sum}
use Rattle.vx_blocks.specs.Cost.{IsBest, cost}
use Rattle.vx_base.specs.Integers.{bytes_of}
use Rattle.vx_blocks.proofs.widths.best_width.Given as goal

abbrev pub invariant-loop-width : goal.invariant-loop-width
invariant-loop-width l = record {
  wider : l.wider ≡ sum (drop l.width l.histogram);
  least : l.least ≡ cost l.histogram (bytes_of l.fn.ptype) l.best;
  room : l.wider ≤ l.rows;
  best : IsBest (cost l.histogram (bytes_of l.fn.ptype)) (l.width - 1) l.best;
}
