-- What is known where a match has shown a tree's root.
use Rattle.std.proofs.Common.{◌≡◌, ◌∙◌, sym, ap, subst}
use Rattle.vx_model.specs.Tree.{Tree}
use Rattle.vx_model.specs.WellFormed.{WellFormed}
use Rattle.vx_array.specs.declared.array.Node.{Node}
use Rattle.vx_array.specs.TreeOf.{tree_of}
use Rattle.vx_array.proofs.AtNode.{IsAt}

pub at_root : {n m : Node} {tree : Tree} → tree_of n ≡ tree → WellFormed tree → n ≡ m → IsAt tree (tree_of m)
at_root v w e =
    let shape = sym v ∙ ap tree_of e in
    record { is = shape; well_formed = subst WellFormed shape w }
