use Rattle.std.proofs.Common.{◌∙◌, ap, sym}
use Rattle.vx_array.specs.TreeOf.{tree_of}
use Rattle.vx_model.specs.Tree.{dict}
use Rattle.vx_rows.proofs.extremes.flat_extremes.Goals as goal

pub dict_extremes-requires-clause-dict : goal.dict_extremes-requires-clause-dict
dict_extremes-requires-clause-dict c = sym ((λ i. dict (c.deref.ensures i) (c.deref-in-Dict.ensures i)) ∙ sym (ap tree_of c.in-Dict.is) ∙ c.node.ensures.tree)
