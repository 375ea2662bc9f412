use Rattle.std.proofs.Common.{◌≡◌, ◌++◌, length, map, take, drop}
use Rattle.std.specs.Vec.Iter.{into_iter_items}
use Rattle.vx_base.specs.PlainValue.{of_list}
use Rattle.vx_base.specs.TypeOf.{value_of}
use Rattle.vx_flat.specs.Columns.{with_row}
use Rattle.vx_flat.proofs.within.push_row.Given as goal

-- the columns so far have their value of the row, and the others theirs of what is left of it
abbrev pub invariant-loop-place : goal.invariant-loop-place
invariant-loop-place l =
    let now = map (λ column. map value_of column.items) l.columns.items in
    record {
      pushed : take l.place now ++ with_row (drop l.place now) (of_list (map value_of (into_iter_items l.values))) ≡ with_row (map (λ column. map value_of column.items) l.fn.columns.items) (of_list (map value_of l.fn.row.items));
      length : length l.columns.items ≡ length l.fn.columns.items;
    }
