use Rattle.std.proofs.Common.{◌≡◌, ◌≤◌, ◌+◌}
use Rattle.vx_stats.specs.Distinct.{times}
use Rattle.vx_stats.proofs.TallyLemmas.{left}
use Rattle.vx_schemes_runs.proofs.integer.sparse.vote.times_in_valid.Given as goal

abbrev pub invariant-loop-row : goal.invariant-loop-row
invariant-loop-row g l =
    let whole = g.T.Integer.whole in
    record {
      few : l.count ≤ l.row;
      count : l.count + times (left whole l.items l.bits l.row) (whole l.fn.value) ≡ times (left whole l.items l.bits 0) (whole l.fn.value);
    }
