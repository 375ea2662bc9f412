use Rattle.std.proofs.Common.{◌≡◌, map, drop}
use Rattle.std.specs.List.{list_any}
use Rattle.vx_base.specs.PlainValue.{is_null}
use Rattle.vx_base.specs.TypeOf.{value_of}
use Rattle.vx_model.specs.Nested.{elements}
use Rattle.vx_flat.proofs.elements.has_null_element.Given as goal

-- what is left decides
abbrev pub invariant-loop-list : goal.invariant-loop-list
invariant-loop-list l = list_any is_null (elements (map value_of (drop l.list-index l.lists))) ≡ list_any is_null (elements (map value_of l.lists))
