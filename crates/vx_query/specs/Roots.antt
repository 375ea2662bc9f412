-- Trees by their roots.
use Rattle.vx_model.specs.Tree.{Tree}
use Rattle.vx_query.specs.declared.rooted.Rooted.{Rooted}
use Rattle.vx_query.specs.declared.rooted.Rooted.TheVariants as roots

-- the tree
abbrev pub tree_in : Rooted → Tree
tree_in (roots.Sparse t) = t
tree_in (roots.Parts t) = t
tree_in (roots.Other t) = t
