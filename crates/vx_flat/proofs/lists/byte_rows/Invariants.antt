use Rattle.std.proofs.Common.{◌≡◌, ◌++◌, map}
use Rattle.std.specs.Vec.Iter.{into_iter_items}
use Rattle.vx_base.specs.PlainValue.{bytes_or_empty}
use Rattle.vx_base.specs.TypeOf.{value_of}
use Rattle.vx_flat.proofs.lists.byte_rows.Given as goal

-- the rows, and those of what is left
abbrev pub invariant-loop-value : goal.invariant-loop-value
invariant-loop-value l = l.rows.items ++ map bytes_or_empty (map value_of (into_iter_items l.value-iterator)) ≡ map bytes_or_empty (map value_of l.fn.values.items)
