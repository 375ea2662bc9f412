use Rattle.std.proofs.Common.{◌≡◌, ◌^◌, ◌-◌, length, map, min, take}
use Rattle.vx_base.specs.TypeOf.{value_of}
use Rattle.vx_model.specs.Nested.{elements}
use Rattle.vx_flat.proofs.elements.element_count.Given as goal

abbrev pub invariant-loop-list : goal.invariant-loop-list
invariant-loop-list l = l.count ≡ min (length (elements (map value_of (take l.list-index l.lists)))) (2 ^ 64 - 1)
