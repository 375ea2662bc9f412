use Rattle.std.proofs.Common.{◌≡◌, map, take, length}
use Rattle.vx_base.specs.TypeOf.{value_of}
use Rattle.vx_base.proofs.value.+same.Given as goal

abbrev pub invariant-Values::same-loop-place : goal.invariant-Values::same-loop-place
invariant-Values::same-loop-place l = record { lengths : length l.self-inside.items.items ≡ length l.other-inside.items.items; same_below : map value_of (take l.place l.self-inside.items.items) ≡ map value_of (take l.place l.other-inside.items.items) }
