use Rattle.std.proofs.Common.{◌≡◌, ◌+◌, ◌≤◌}
use Rattle.std.specs.Prelude.{fold}
use Rattle.std.specs.Int.{int_min, int_max}
use Rattle.vx_stats.specs.Stats.{runs_after}
use Rattle.vx_stats.specs.Tally.{last_from}
use Rattle.vx_stats.proofs.TallyLemmas.{left}
use Rattle.vx_stats.proofs.integer.tally.tally_valid.Given as goal

abbrev pub invariant-loop-row : goal.invariant-loop-row
invariant-loop-row g l =
    let whole = g.T.Integer.whole in
    let before = l.fn.before in
    let here = left whole l.items l.bits l.row in
    let all = left whole l.items l.bits 0 in
    record {
      few : l.changes ≤ before.changes + l.row;
      above : int_min (whole l.min) (whole l.last) ≡ whole l.min;
      below : int_max (whole l.max) (whole l.last) ≡ whole l.max;
      changes : l.changes + runs_after (whole l.last) here ≡ before.changes + runs_after (whole before.last) all;
      least : fold int_min (whole l.min) here ≡ fold int_min (whole before.min) all;
      greatest : fold int_max (whole l.max) here ≡ fold int_max (whole before.max) all;
      final : last_from (whole l.last) here ≡ last_from (whole before.last) all;
    }
