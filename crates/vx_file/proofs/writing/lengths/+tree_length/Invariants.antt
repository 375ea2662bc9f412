use Rattle.std.proofs.Common.{◌≡◌, ◌+◌, take}
use Rattle.std.specs.Prelude.{sum_by}
use Rattle.vx_model.specs.Nodes.{children}
use Rattle.vx_model.specs.Tree.{node_count}
use Rattle.vx_file.specs.Lengths.{capped, own_size, text_size}
use Rattle.vx_file.proofs.writing.lengths.+tree_length.Given as goal

abbrev pub decreases-tree_length : goal.decreases-tree_length
decreases-tree_length l = node_count l.tree.now

-- its own bytes, and those of the children before
abbrev pub invariant-loop-place : goal.invariant-loop-place
invariant-loop-place l = l.length ≡ capped (own_size l.tree + sum_by text_size (take l.place (children l.tree)))
