use Rattle.std.proofs.Common.{◌∙◌, ap, sym}
use Rattle.vx_array.specs.TreeOf.{tree_of}
use Rattle.vx_model.specs.Tree.{dict}
use Rattle.vx_rows.proofs.constancy.constancy.Goals as goal

pub dict_is_constant-requires : goal.dict_is_constant-requires
dict_is_constant-requires c = sym ((λ i. dict (c.deref.ensures i) (c.deref-in-Dict.ensures i)) ∙ sym (ap tree_of c.in-Dict.is) ∙ c.node.ensures.tree)
