use Rattle.std.proofs.Common.{◌≡◌, map, take, length}
use Rattle.vx_base.specs.TypeOf.{field_of}
use Rattle.vx_base.proofs.dtype.+same.Given as goal

abbrev pub invariant-Fields::same-loop-place : goal.invariant-Fields::same-loop-place
invariant-Fields::same-loop-place l = record { lengths : length l.self.items.items ≡ length l.other.items.items; same_below : map field_of (take l.place l.self.items.items) ≡ map field_of (take l.place l.other.items.items) }
