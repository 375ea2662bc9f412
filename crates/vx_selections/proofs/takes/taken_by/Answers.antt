use Rattle.std.proofs.Common.{◌≡◌, ◌∙◌, ap, length, subst, sym}
use Rattle.vx_array.specs.TreeOf.{tree_of}
use Rattle.vx_base.specs.Answers.{Decided}
use Rattle.vx_model.specs.Column.{column_of}
use Rattle.vx_model.specs.Rows.{rows}
use Rattle.vx_rules.specs.Selections.{taken}
use Rattle.vx_selections.specs.Chosen.{place_refusal}
use Rattle.vx_selections.proofs.takes.taken_by.Goals as goal

pub returns-in-Primitive : goal.returns-in-Primitive
returns-in-Primitive c =
    let tree = c.args.tree.now in
    subst (λ t. Decided (place_refusal (length (rows tree)) (rows t)) (λ out. column_of out ≡ taken (column_of tree) (column_of t)) c.taken.result) (sym (ap tree_of c.in-Primitive.is) ∙ c.node.ensures.tree) c.taken.ensures
