use Rattle.std.proofs.Common.{◌≡◌, ◌∙◌, ap, subst, sym}
use Rattle.vx_array.specs.TreeOf.{tree_of}
use Rattle.vx_base.specs.Answers.{OrMemory}
use Rattle.vx_model.specs.Column.{column_of}
use Rattle.vx_model.specs.Tree.{dict, primitive}
use Rattle.vx_rules.specs.Selections.{taken}
use Rattle.vx_values.specs.IntsOf.{ptype_of, wholes_of}
use Rattle.vx_selections.proofs.takes.in_bounds.taken_rows.Goals as goal

pub returns-in-Dict : goal.returns-in-Dict
returns-in-Dict c =
    subst (λ t. OrMemory c.taken_dict.result (λ out. column_of out ≡ taken (column_of t) (column_of (primitive (ptype_of c.args.codes.now) (wholes_of c.args.codes.now) c.args.valid.now c.args.nulls))))
    ((λ i. dict (c.deref.ensures i) (c.deref-in-Dict.ensures i)) ∙ sym (ap tree_of c.in-Dict.is) ∙ c.node.ensures.tree) c.taken_dict.ensures
