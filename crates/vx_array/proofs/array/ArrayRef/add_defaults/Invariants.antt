use Rattle.std.proofs.Common.{◌≡◌, ◌++◌, map}
use Rattle.std.specs.Prelude.{replicate}
use Rattle.vx_base.specs.Defaults.{null_or_default}
use Rattle.vx_base.specs.TypeOf.{value_of}
use Rattle.vx_model.specs.TreeType.{tree_type}
use Rattle.vx_array.proofs.array.ArrayRef.add_defaults.Given as goal

abbrev pub invariant-loop-row : goal.invariant-loop-row
invariant-loop-row l = map value_of l.values.items ≡ map value_of l.initial.values.items ++ replicate l._row (null_or_default (tree_type l.self))
