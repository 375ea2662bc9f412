use Rattle.std.proofs.Common.{◌≡◌, ◌++◌, map, true}
use Rattle.std.specs.List.{list_all}
use Rattle.std.specs.Vec.Iter.{into_iter_items}
use Rattle.vx_base.specs.declared.dtype.Nullability.TheVariants.{Nullable}
use Rattle.vx_base.specs.declared.ptype.PType.TheVariants.{U64}
use Rattle.vx_base.specs.PlainScalar.{fits}
use Rattle.vx_base.specs.PlainType.{primitive}
use Rattle.vx_base.specs.TypeOf.{value_of}
use Rattle.vx_query.specs.Queries.{index_row}
use Rattle.vx_query.proofs.reading.index_values.Given as goal

-- the values so far and those that are left are all, and those so far fit their type
abbrev pub invariant-loop-index : goal.invariant-loop-index
invariant-loop-index l = record {
  values : map value_of l.values.items ++ map index_row (into_iter_items l.index-iterator) ≡ map index_row l.fn.indices.items;
  fit : list_all (fits (primitive U64 Nullable)) (map value_of l.values.items) ≡ true;
}
