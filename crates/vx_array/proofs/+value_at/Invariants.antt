use Rattle.std.proofs.Common.{◌≡◌, ◌+◌, ◌*◌, map, take}
use Rattle.vx_base.specs.Masks.{rows_between}
use Rattle.vx_base.specs.TypeOf.{value_of}
use Rattle.vx_model.specs.Rows.{rows, row_at}
use Rattle.vx_model.specs.Tree.{node_count, list_count, patches_count}
use Rattle.vx_array.proofs.+value_at.Given as goal

abbrev pub decreases-array::ArrayRef::value_at : goal.decreases-array::ArrayRef::value_at
decreases-array::ArrayRef::value_at l = 3 * node_count l.self.now

abbrev pub decreases-value_at::struct_at : goal.decreases-value_at::struct_at
decreases-value_at::struct_at l = 3 * list_count l.fields.now + 1

abbrev pub decreases-value_at::list_at : goal.decreases-value_at::list_at
decreases-value_at::list_at l = 3 * node_count l.elements.now + 2

abbrev pub decreases-value_at::fixed_at : goal.decreases-value_at::fixed_at
decreases-value_at::fixed_at l = 3 * node_count l.elements.now + 2

abbrev pub decreases-value_at::elements_between : goal.decreases-value_at::elements_between
decreases-value_at::elements_between l = 3 * node_count l.elements.now + 1

abbrev pub decreases-node::sparse::sparse_value_at : goal.decreases-node::sparse::sparse_value_at
decreases-node::sparse::sparse_value_at l = 3 * patches_count l.patches.now

abbrev pub invariant-value_at::struct_at-loop-field : goal.invariant-value_at::struct_at-loop-field
invariant-value_at::struct_at-loop-field l = map value_of l.values.items ≡ map (λ t. row_at (rows t) l.row) (take l.field-index l.field-items)

abbrev pub invariant-value_at::elements_between-loop-row : goal.invariant-value_at::elements_between-loop-row
invariant-value_at::elements_between-loop-row l = map value_of l.values.items ≡ rows_between (rows l.elements) l.start l.row
