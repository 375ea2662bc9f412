use Rattle.std.proofs.Common.{◌-◌, ◌≤◌, length}
use Rattle.vx_stats.specs.Tally.{IsTallyAfter, SpansLast, tally_of}
use Rattle.vx_stats.specs.declared.integer.tally.Tally.{Tally}
use Rattle.vx_stats.proofs.TallyLemmas.{left}
use Rattle.vx_stats.proofs.integer.tally.tally_groups.Given as goal

-- a tally that goes on from here is that of all rows
abbrev pub invariant-loop-start : goal.invariant-loop-start
invariant-loop-start g l =
    let whole = g.T.Integer.whole in
    record {
      few : l.tally.changes ≤ l.start;
      spans : SpansLast whole l.tally;
      rest : (t : Tally g.row.T.Denot) → IsTallyAfter whole l.tally (left whole l.items l.bits l.start) t → IsTallyAfter whole (tally_of l.fn.first) (left whole l.items l.bits 0) t;
    }

abbrev pub decreases-loop-start : goal.decreases-loop-start
decreases-loop-start g l = length l.items - l.start
