use Rattle.std.proofs.Common.{◌≡◌, ◌+◌, ◌*◌, ◌^◌, ◌-◌, min, map, take}
use Rattle.vx_base.specs.TypeOf.{type_of, value_of}
use Rattle.vx_flat.specs.Ways.{way_of, way_length, count_at}
use Rattle.vx_flat.proofs.counting.within.+rows_within.Given as goal

-- four for each step, and more where a call of the same way comes first
abbrev pub decreases-rows_of : goal.decreases-rows_of
decreases-rows_of l = 4 * way_length (way_of l.way.now)

abbrev pub decreases-rows_within : goal.decreases-rows_within
decreases-rows_within l = 4 * way_length (way_of l.way.now) + 1

abbrev pub decreases-rows_of_field : goal.decreases-rows_of_field
decreases-rows_of_field l = 4 * way_length (way_of l.rest.now) + 2

abbrev pub decreases-rows_of_items : goal.decreases-rows_of_items
decreases-rows_of_items l = 4 * way_length (way_of l.rest.now) + 2

abbrev pub invariant-rows_within-loop-value : goal.invariant-rows_within-loop-value
invariant-rows_within-loop-value l = l.sum ≡ min (count_at (way_of l.way) (type_of l.dtype) (map value_of (take l.value-index l.values))) (2 ^ 64 - 1)
