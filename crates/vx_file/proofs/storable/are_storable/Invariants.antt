use Rattle.std.proofs.Common.{◌≡◌, drop}
use Rattle.vx_file.specs.Answers.{are_storable}
use Rattle.vx_file.proofs.storable.are_storable.Given as goal

-- the trees that are left decide
abbrev pub invariant-loop-tree : goal.invariant-loop-tree
invariant-loop-tree l = are_storable (drop l.tree-index l.tree-items) ≡ are_storable l.trees
