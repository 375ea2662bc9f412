use Rattle.std.proofs.Common.{◌≡◌, ◌++◌, map, length}
use Rattle.std.specs.Vec.Iter.{into_iter_items}
use Rattle.vx_base.specs.TypeOf.{value_of}
use Rattle.vx_model.specs.Nested.{list_rows, elements}
use Rattle.vx_model.specs.Offsets.{offsets_of}
use Rattle.vx_flat.proofs.ValueLemmas.{ends_from}
use Rattle.vx_flat.proofs.within.list_items.Given as goal

-- the items and the offsets, and those of what is left
abbrev pub invariant-loop-value : goal.invariant-loop-value
invariant-loop-value l = record {
  elements : map value_of l.items.items ++ elements (map value_of (into_iter_items l.value-iterator)) ≡ elements (map value_of l.fn.values.items);
  offsets : l.offsets.items ++ ends_from (length l.items.items) (list_rows (map value_of (into_iter_items l.value-iterator))) ≡ offsets_of (list_rows (map value_of l.fn.values.items));
}
