use Rattle.std.proofs.Common.{◌-◌, ◌<◌, ◌≤◌, ◌+◌, ◌*◌, ◌^◌, length}
use Rattle.vx_model.specs.Rows.{rows}
use Rattle.vx_model.specs.WellFormed.{searched}
use Rattle.vx_model.proofs.PatchLemmas.{NoneBelow, NoneFrom}
use Rattle.vx_array.proofs.array.Patches.search.Given as goal

abbrev pub invariant-loop-low : goal.invariant-loop-low
invariant-loop-low g l =
    record {
      below : NoneBelow (rows l.fn.self.indices) l.wanted l.low;
      above : NoneFrom (rows l.fn.self.indices) l.wanted l.high;
      order : l.low ≤ l.high;
      within : l.high ≤ length (rows l.fn.self.indices);
      rose : l.fn.steps ≤ l.steps;
      looked : l.high - l.low < searched l.fn.self l.row → l.fn.steps < l.steps;
      left : 2 ^ (l.steps - l.fn.steps) * (l.high - l.low) ≤ searched l.fn.self l.row;
      probes : 2 ^ (l.steps - l.fn.steps) ≤ 2 * searched l.fn.self l.row + 1;
      fewer : searched l.fn.self l.row ≤ length (rows l.fn.self.indices);
    }

abbrev pub decreases-loop-low : goal.decreases-loop-low
decreases-loop-low g l = l.high - l.low
