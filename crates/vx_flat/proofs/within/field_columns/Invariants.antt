use Rattle.std.proofs.Common.{◌≡◌, map}
use Rattle.std.specs.Vec.Iter.{into_iter_items}
use Rattle.vx_base.specs.TypeOf.{value_of}
use Rattle.vx_flat.specs.Columns.{columns_of}
use Rattle.vx_flat.proofs.ValueLemmas.{with_rows}
use Rattle.vx_model.specs.Nested.{within}
use Rattle.vx_flat.proofs.within.field_columns.Given as goal

-- the columns with the rows that are left
abbrev pub invariant-loop-value : goal.invariant-loop-value
invariant-loop-value l =
    with_rows (map (λ column. map value_of column.items) l.columns.items) (map within (map value_of (into_iter_items l.value-iterator))) ≡ columns_of l.count (map within (map value_of l.fn.values.items))
