use Rattle.std.proofs.Common.{◌≡◌, take}
use Rattle.vx_array.proofs.+copy.Given as goal

abbrev pub invariant-arrays::Arrays::copy-loop-tree : goal.invariant-arrays::Arrays::copy-loop-tree
invariant-arrays::Arrays::copy-loop-tree l = l.copies.items ≡ take l.tree-index l.tree-items
