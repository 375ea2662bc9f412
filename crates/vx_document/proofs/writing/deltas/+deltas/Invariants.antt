use Rattle.std.proofs.Common.{◌≡◌, ◌+◌, ◌*◌, ◌++◌, map, drop, length}
use Rattle.vx_model.specs.Column.{column_of}
use Rattle.vx_model.specs.Tree.{node_count, list_count, patches_count}
use Rattle.vx_document.proofs.writing.deltas.+deltas.Given as goal

abbrev pub decreases-without_deltas : goal.decreases-without_deltas
decreases-without_deltas l = 3 * node_count l.tree

abbrev pub decreases-var_bin : goal.decreases-var_bin
decreases-var_bin l = 3 * node_count l.offsets + 1

abbrev pub decreases-masked : goal.decreases-masked
decreases-masked l = 3 * node_count l.child + 1

abbrev pub decreases-dict : goal.decreases-dict
decreases-dict l = 3 * (node_count l.codes + node_count l.values) + 1

abbrev pub decreases-sparse : goal.decreases-sparse
decreases-sparse l = 3 * patches_count l.patches

abbrev pub decreases-nested::structs : goal.decreases-nested::structs
decreases-nested::structs l = 3 * list_count l.fields + 2

abbrev pub decreases-nested::each_without : goal.decreases-nested::each_without
decreases-nested::each_without l = 3 * list_count l.trees + 1

abbrev pub decreases-nested::lists : goal.decreases-nested::lists
decreases-nested::lists l = 3 * (node_count l.elements + node_count l.offsets) + 1

abbrev pub decreases-nested::fixed : goal.decreases-nested::fixed
decreases-nested::fixed l = 3 * node_count l.elements + 1

-- the columns so far, and those of the trees that are left
abbrev pub invariant-nested::each_without-loop-tree : goal.invariant-nested::each_without-loop-tree
invariant-nested::each_without-loop-tree l = map column_of l.made.items ++ map column_of (drop (length l.yielded) l.fn.trees) ≡ map column_of l.fn.trees
