use Rattle.std.proofs.Common.{◌≡◌, map, take}
use Rattle.vx_base.specs.TypeOf.{value_of}
use Rattle.vx_model.specs.Nested.{elements}
use Rattle.vx_model.specs.Plain.{valid_bits}
use Rattle.vx_flat.proofs.elements.element_validity.Given as goal

-- the bits of the lists so far
abbrev pub invariant-loop-list : goal.invariant-loop-list
invariant-loop-list l = l.bits.items ≡ valid_bits (elements (map value_of (take l.list-index l.lists)))
