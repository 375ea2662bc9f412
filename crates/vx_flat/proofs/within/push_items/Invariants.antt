use Rattle.std.proofs.Common.{◌≡◌, ◌++◌, map}
use Rattle.std.specs.Vec.Iter.{into_iter_items}
use Rattle.vx_base.specs.PlainValue.{items_or_empty}
use Rattle.vx_base.specs.TypeOf.{value_of}
use Rattle.vx_flat.proofs.within.push_items.Given as goal

-- what is there, and what is left
abbrev pub invariant-loop-item : goal.invariant-loop-item
invariant-loop-item l = map value_of l.items.items ++ map value_of (into_iter_items l.item-iterator) ≡ map value_of l.fn.items.items ++ items_or_empty (value_of l.fn.value)
