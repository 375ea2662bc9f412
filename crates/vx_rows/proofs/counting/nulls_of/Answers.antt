use Rattle.std.proofs.Common.{◌∙◌, sym}
use Rattle.std.proofs.Common.{ap}
use Rattle.vx_array.specs.TreeOf.{tree_of}
use Rattle.vx_model.specs.Column.{column_of}
use Rattle.vx_model.specs.Tree.{dict}
use Rattle.vx_rules.specs.Aggregates.{null_count}
use Rattle.vx_rows.proofs.ExtremeLemmas.{same-answer}
use Rattle.vx_rows.proofs.counting.nulls_of.Goals as goal

pub returns-in-Dict : goal.returns-in-Dict
returns-in-Dict c =
    let tree = (λ i. dict (c.deref.ensures i) (c.deref-in-Dict.ensures i)) ∙ sym (ap tree_of c.in-Dict.is) ∙ c.node.ensures.tree in
    same-answer c.dict_nulls.result _ _ (ap (λ t. null_count (column_of t)) tree) c.dict_nulls.ensures
