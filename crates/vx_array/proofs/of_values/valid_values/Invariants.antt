use Rattle.std.proofs.Common.{◌≡◌, ◌++◌, map}
use Rattle.std.specs.Vec.Iter.{into_iter_items}
use Rattle.vx_base.specs.TypeOf.{value_of}
use Rattle.vx_array.proofs.SpreadTrees.{valid_of}
use Rattle.vx_array.proofs.of_values.valid_values.Given as goal

-- the valid values so far, and those of what is left
abbrev pub invariant-loop-value : goal.invariant-loop-value
invariant-loop-value l = map value_of l.kept.items ++ valid_of (map value_of (into_iter_items l.value-iterator)) ≡ valid_of (map value_of l.fn.values.items)
