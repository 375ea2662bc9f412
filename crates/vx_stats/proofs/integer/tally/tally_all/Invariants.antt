use Rattle.std.proofs.Common.{◌≡◌, ◌+◌, ◌≤◌, map, drop}
use Rattle.std.specs.Prelude.{fold}
use Rattle.std.specs.Int.{int_min, int_max}
use Rattle.vx_stats.specs.Stats.{runs_after}
use Rattle.vx_stats.specs.Tally.{last_from}
use Rattle.vx_stats.proofs.integer.tally.tally_all.Given as goal

abbrev pub invariant-loop-row : goal.invariant-loop-row
invariant-loop-row g l =
    let whole = g.T.Integer.whole in
    let before = l.fn.before in
    let all = map whole l.items in
    let left = map whole (drop l.row l.items) in
    record {
      few : l.changes ≤ before.changes + l.row;
      changes : l.changes + runs_after (whole l.last) left ≡ before.changes + runs_after (whole before.last) all;
      least : fold int_min (whole l.min) left ≡ fold int_min (whole before.min) all;
      greatest : fold int_max (whole l.max) left ≡ fold int_max (whole before.max) all;
      final : last_from (whole l.last) left ≡ last_from (whole before.last) all;
    }
