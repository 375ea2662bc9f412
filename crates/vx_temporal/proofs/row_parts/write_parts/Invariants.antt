use Rattle.std.proofs.Common.{◌≡◌, take, map, true, to_z}
use Rattle.std.specs.List.{list_all}
use Rattle.std.specs.Int.{w64}
use Rattle.vx_temporal.specs.SplitRows.{day_in, second_in, subsecond_in, has_day}
use Rattle.vx_temporal.proofs.row_parts.write_parts.Given as goal

abbrev pub invariant-loop-row : goal.invariant-loop-row
invariant-loop-row g l =
    let d = to_z w64 g.row.D in
    record {
      fits : list_all (has_day d) (take l.row l.rows) ≡ true;
      days : take l.row l.days ≡ map (day_in d) (take l.row l.rows);
      seconds : take l.row l.seconds ≡ map (second_in d) (take l.row l.rows);
      subseconds : take l.row l.subseconds ≡ map (subsecond_in d) (take l.row l.rows);
    }
