use Rattle.std.proofs.Common.{◌≡◌, ◌++◌, map}
use Rattle.std.specs.Vec.Iter.{into_iter_items}
use Rattle.vx_base.specs.PlainValue.{bytes_or_empty, items_or_empty}
use Rattle.vx_base.specs.TypeOf.{value_of}
use Rattle.vx_flat.proofs.elements.push_bytes.Given as goal

-- what is there, and what is left
abbrev pub invariant-loop-item : goal.invariant-loop-item
invariant-loop-item l = l.rows.items ++ map bytes_or_empty (map value_of (into_iter_items l.item-iterator)) ≡ l.fn.rows.items ++ map bytes_or_empty (items_or_empty (value_of l.fn.value))
