use Rattle.std.proofs.Common.{◌∙◌, map, ap, subst}
use Rattle.std.specs.List.{list_all}
use Rattle.vx_base.specs.Answers.{Answers}
use Rattle.vx_base.specs.PlainScalar.{fits}
use Rattle.vx_base.specs.TypeOf.{value_of}
use Rattle.vx_model.specs.Plain.{plain_of}
use Rattle.vx_sparse.proofs.kernels.comparisons.truth_tree.Goals as goal

pub of_values-requires : goal.of_values-requires
of_values-requires c = ap (λ t. list_all (fits t) (map value_of c.args.values.items)) c.bool-dtype.ensures ∙ c.requires

pub returns : goal.returns
returns c = subst (Answers c.of_values.result) (ap (λ t. plain_of t (map value_of c.args.values.items)) c.bool-dtype.ensures) c.of_values.ensures.tree
