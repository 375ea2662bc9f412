use Rattle.std.proofs.Common.{◌≡◌, map, take}
use Rattle.std.specs.List.{zip}
use Rattle.vx_base.specs.TypeOf.{field_of}
use Rattle.vx_model.specs.TreeType.{tree_type}
use Rattle.vx_array.proofs.node.structure.typed_fields.Given as goal

abbrev pub invariant-loop-place : goal.invariant-loop-place
invariant-loop-place l = map field_of l.typed.items ≡ zip (take l.place l.names) (map tree_type (take l.place l.fields))
