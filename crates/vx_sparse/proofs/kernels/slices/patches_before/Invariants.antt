use Rattle.std.proofs.Common.{◌≤◌, ◌-◌, length}
use Rattle.vx_model.specs.Rows.{rows}
use Rattle.vx_model.specs.WellFormed.{indices_below}
use Rattle.vx_sparse.proofs.kernels.slices.patches_before.Given as goal

abbrev pub invariant-loop-low : goal.invariant-loop-low
invariant-loop-low l =
    record {
      behind : l.low ≤ indices_below l.bound (rows l.fn.patches.indices);
      before : indices_below l.bound (rows l.fn.patches.indices) ≤ l.high;
      within : l.high ≤ length (rows l.fn.patches.indices);
    }

abbrev pub decreases-loop-low : goal.decreases-loop-low
decreases-loop-low l = l.high - l.low
