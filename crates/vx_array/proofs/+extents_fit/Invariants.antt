use Rattle.std.proofs.Common.{◌≡◌, take, true}
use Rattle.std.specs.List.{list_all}
use Rattle.vx_model.specs.Extents.{extents_fit}
use Rattle.vx_array.proofs.+extents_fit.Given as goal

abbrev pub invariant-arrays::Arrays::extents_fit-loop-tree : goal.invariant-arrays::Arrays::extents_fit-loop-tree
invariant-arrays::Arrays::extents_fit-loop-tree l = list_all extents_fit (take l.tree-index l.tree-items) ≡ true
