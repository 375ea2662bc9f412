use Rattle.std.proofs.Common.{◌≡◌, ◌++◌, map, take}
use Rattle.vx_base.specs.TypeOf.{value_of}
use Rattle.vx_model.specs.Plain.{valid_bits}
use Rattle.vx_flat.proofs.elements.push_valid.Given as goal

-- what was there, and the bits so far
abbrev pub invariant-loop-value : goal.invariant-loop-value
invariant-loop-value l = l.bits.items ≡ l.fn.bits.items ++ valid_bits (map value_of (take l.value-index l.values))
