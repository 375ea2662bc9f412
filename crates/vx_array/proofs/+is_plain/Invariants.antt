use Rattle.std.proofs.Common.{take}
use Rattle.vx_model.specs.Tree.{of_list, node_count, list_count}
use Rattle.vx_array.specs.Beneath.{ArePlain}
use Rattle.vx_array.proofs.+is_plain.Given as goal

abbrev pub decreases-array::ArrayRef::is_plain : goal.decreases-array::ArrayRef::is_plain
decreases-array::ArrayRef::is_plain l = node_count l.self.now

abbrev pub decreases-arrays::Arrays::are_plain : goal.decreases-arrays::Arrays::are_plain
decreases-arrays::Arrays::are_plain l = list_count l.self.now

abbrev pub invariant-arrays::Arrays::are_plain-loop-tree : goal.invariant-arrays::Arrays::are_plain-loop-tree
invariant-arrays::Arrays::are_plain-loop-tree l = ArePlain l.valid (of_list (take l.tree-index l.tree-items))
