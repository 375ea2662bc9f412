use Rattle.std.proofs.Common.{◌≡◌, map, take, ℕ, List}
use Rattle.vx_base.specs.PlainType.{PlainType}
use Rattle.vx_base.specs.TypeOf.{field_of}
use Rattle.vx_array.proofs.of_values.field_names.Given as goal

abbrev pub invariant-loop-field : goal.invariant-loop-field
invariant-loop-field l = l.names.items ≡ map (λ (f : List ℕ × PlainType). f.0) (map field_of (take l.field-index l.field-items))
