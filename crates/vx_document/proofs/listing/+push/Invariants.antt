use Rattle.std.proofs.Common.{◌≡◌, ◌+◌, ◌++◌, take, string_bytes}
use Rattle.std.specs.List.{flat_map}
use Rattle.vx_model.specs.Tree.{node_count, list_count}
use Rattle.vx_document.specs.Listing.{listing}
use Rattle.vx_document.proofs.Listings.{chunk_nodes}
use Rattle.vx_document.proofs.listing.+push.Given as goal

abbrev pub decreases-push_tree : goal.decreases-push_tree
decreases-push_tree l = node_count l.tree.now

abbrev pub decreases-push_patches : goal.decreases-push_patches
decreases-push_patches l = node_count l.patches.now.indices + node_count l.patches.now.values + 1

abbrev pub decreases-push_chunks : goal.decreases-push_chunks
decreases-push_chunks l = chunk_nodes l.patches.now.chunks + 1

abbrev pub decreases-push_trees : goal.decreases-push_trees
decreases-push_trees l = list_count l.trees.now

-- the listings so far
abbrev pub invariant-push_trees-loop-tree : goal.invariant-push_trees-loop-tree
invariant-push_trees-loop-tree l = string_bytes l.text ≡ string_bytes l.initial.text ++ flat_map (listing l.indent) (take l.tree-index l.tree-items)
