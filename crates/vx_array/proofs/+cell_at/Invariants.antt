use Rattle.std.proofs.Common.{◌≡◌, ◌≤◌, ◌+◌, ◌-◌, ◌*◌, ◌^◌, pos, length}
use Rattle.std.specs.Prelude.{◌+ℤ◌, ◌≤ℤ◌}
use Rattle.vx_model.specs.Rows.{rows}
use Rattle.vx_model.proofs.PatchLemmas.{NoneBelow, NoneFrom}
use Rattle.vx_model.proofs.RunEndLemmas.{EndsBefore, EndsAbove}
use Rattle.vx_array.specs.Sums.{sum_before}
use Rattle.vx_array.proofs.+cell_at.Given as goal

abbrev pub invariant-array::Patches::place_of-loop-low : goal.invariant-array::Patches::place_of-loop-low
invariant-array::Patches::place_of-loop-low l =
    NoneBelow (rows l.fn.self.indices) l.wanted l.low × NoneFrom (rows l.fn.self.indices) l.wanted l.high × (l.low ≤ l.high) × (l.high ≤ length (rows l.fn.self.indices))

abbrev pub decreases-array::Patches::place_of-loop-low : goal.decreases-array::Patches::place_of-loop-low
decreases-array::Patches::place_of-loop-low l = l.high - l.low

abbrev pub invariant-node::run_end::run_at-loop-low : goal.invariant-node::run_end::run_at-loop-low
invariant-node::run_end::run_at-loop-low l = EndsBefore (rows l.fn.ends) l.row l.low × EndsAbove (rows l.fn.ends) l.row l.high × (l.low ≤ l.high) × (l.high ≤ length (rows l.fn.ends))

abbrev pub decreases-node::run_end::run_at-loop-low : goal.decreases-node::run_end::run_at-loop-low
decreases-node::run_end::run_at-loop-low l = l.high - l.low

-- the sum up to here, which has so many terms
abbrev pub invariant-node::delta_rows::sum_at-loop-place : goal.invariant-node::delta_rows::sum_at-loop-place
invariant-node::delta_rows::sum_at-loop-place l =
    (l.sum ≡ sum_before l.base (rows l.fn.deltas) l.row l.place) × (pos 0 ≤ℤ (l.sum +ℤ pos ((l.place - l.start + 1) * 2 ^ 64))) × (l.sum ≤ℤ pos ((l.place - l.start + 1) * 2 ^ 64))
