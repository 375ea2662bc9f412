use Rattle.std.proofs.Common.{◌≡◌, map, drop}
use Rattle.std.specs.List.{list_any}
use Rattle.vx_base.specs.PlainValue.{is_null}
use Rattle.vx_base.specs.TypeOf.{value_of}
use Rattle.vx_flat.proofs.lists.has_null.Given as goal

-- what is left decides
abbrev pub invariant-loop-value : goal.invariant-loop-value
invariant-loop-value l = list_any is_null (map value_of (drop l.value-index l.values)) ≡ list_any is_null (map value_of l.values)
