use Rattle.std.proofs.Common.{◌≡◌, ◌∙◌, None, ap, sym, subst}
use Rattle.vx_base.specs.Answers.{Answers}
use Rattle.vx_base.specs.PlainType.{nullability_of}
use Rattle.vx_model.specs.Column.{column_of}
use Rattle.vx_model.specs.Plain.{plain}
use Rattle.vx_model.specs.Tree.{primitive}
use Rattle.vx_model.specs.TreeType.{tree_type}
use Rattle.vx_schemes.specs.Dictionary.Tree.{dictionary_values}
use Rattle.vx_schemes.proofs.Dictionary.Tree.{values-plain}
use Rattle.vx_schemes.proofs.integer.dictionary.tree.values_tree.Goals as goal

pub returns : goal.returns
returns c =
    let t = c.args.array.now in
    let n : c.nullability.result ≡ nullability_of (tree_type t) = c.nullability.ensures ∙ ap nullability_of c.dtype.ensures in
    subst (λ made. Answers made (plain (dictionary_values (column_of t)))) (sym c.whole_tree.ensures) ((λ i. primitive (c.requires.ptype i) (c.requires.values i) None (n i)) ∙ values-plain (column_of t) c.requires.integer)
