use Rattle.std.proofs.Common.{◌≡◌, ◌+◌, ◌*◌, take, true}
use Rattle.std.specs.List.{list_all}
use Rattle.vx_array.specs.Beneath.{is_default}
use Rattle.vx_base.specs.Masks.{rows_between}
use Rattle.vx_model.specs.Rows.{rows}
use Rattle.vx_model.specs.Tree.{node_count, list_count}
use Rattle.vx_model.specs.TreeType.{tree_type}
use Rattle.vx_array.proofs.+is_default.Given as goal

abbrev pub decreases-array::ArrayRef::is_default_at : goal.decreases-array::ArrayRef::is_default_at
decreases-array::ArrayRef::is_default_at l = 4 * node_count l.self.now

abbrev pub decreases-array::ArrayRef::each_is_default : goal.decreases-array::ArrayRef::each_is_default
decreases-array::ArrayRef::each_is_default l = 4 * node_count l.self.now + 1

abbrev pub decreases-array::ArrayRef::are_default : goal.decreases-array::ArrayRef::are_default
decreases-array::ArrayRef::are_default l = 4 * node_count l.self.now + 2

abbrev pub decreases-array::ArrayRef::parts_are_default : goal.decreases-array::ArrayRef::parts_are_default
decreases-array::ArrayRef::parts_are_default l = 4 * node_count l.self.now + 3

abbrev pub decreases-array::ArrayRef::part_is_default : goal.decreases-array::ArrayRef::part_is_default
decreases-array::ArrayRef::part_is_default l = 4 * node_count l.self.now + 3

abbrev pub decreases-arrays::Arrays::all_default : goal.decreases-arrays::Arrays::all_default
decreases-arrays::Arrays::all_default l = 4 * list_count l.self.now + 3

abbrev pub invariant-array::ArrayRef::each_is_default-loop-row :
    goal.invariant-array::ArrayRef::each_is_default-loop-row
invariant-array::ArrayRef::each_is_default-loop-row l = list_all (is_default (tree_type l.self)) (rows_between (rows l.self) l.from l.row) ≡ true

abbrev pub invariant-arrays::Arrays::all_default-loop-tree :
    goal.invariant-arrays::Arrays::all_default-loop-tree
invariant-arrays::Arrays::all_default-loop-tree l = list_all (λ t. list_all (is_default (tree_type t)) (rows_between (rows t) l.from l.to)) (take l.tree-index l.tree-items) ≡ true
