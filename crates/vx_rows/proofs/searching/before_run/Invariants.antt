use Rattle.std.proofs.Common.{IsTrue, map, take}
use Rattle.std.specs.List.{list_all}
use Rattle.vx_rows.specs.Items.{plain_item, takes_one}
use Rattle.vx_rows.proofs.searching.before_run.Given as goal

abbrev pub invariant-loop-place : goal.invariant-loop-place
invariant-loop-place l = IsTrue (list_all takes_one (take l.place (map plain_item l.items)))
