use Rattle.std.proofs.Common.{◌≡◌, ◌*◌, take, map, true, to_z}
use Rattle.std.specs.List.{list_all}
use Rattle.std.specs.Int.{w64}
use Rattle.vx_temporal.specs.SplitRows.{day_in, second_in, subsecond_in, has_day, finer}
use Rattle.vx_temporal.proofs.row_parts.split_rows_by.Given as goal

abbrev pub invariant-loop-block : goal.invariant-loop-block
invariant-loop-block g l =
    let d = to_z w64 g.row.D in
    let done = take (1024 * l.block) l.rows in
    record {
      fits : list_all (has_day d) done ≡ true;
      days : l.days.items ≡ map (day_in d) done;
      seconds : l.seconds.items ≡ map (second_in d) done;
      subseconds : l.subseconds.items ≡ finer d (map (subsecond_in d) done);
    }
