use Rattle.std.proofs.Common.{◌≡◌, ◌*◌, ◌+◌, drop}
use Rattle.std.specs.List.{list_all}
use Rattle.vx_model.specs.Nodes.{children}
use Rattle.vx_file.proofs.Children.{is_stored}
use Rattle.vx_file.proofs.storable.+is_stored.Given as goal

abbrev pub decreases-is_stored : goal.decreases-is_stored
decreases-is_stored l = 2 * l.limit

abbrev pub decreases-are_stored : goal.decreases-are_stored
decreases-are_stored l = 2 * l.limit + 1

-- the children that are left decide
abbrev pub invariant-are_stored-loop-place : goal.invariant-are_stored-loop-place
invariant-are_stored-loop-place l = list_all (is_stored l.limit) (drop l.place (children l.tree)) ≡ list_all (is_stored l.limit) (children l.tree)
