use Rattle.std.proofs.Common.{◌∙◌, ap}
use Rattle.std.specs.List.{list_all}
use Rattle.vx_base.specs.PlainScalar.{fits}
use Rattle.vx_base.specs.TypeOf.{type_of}
use Rattle.vx_model.specs.Column.{column}
use Rattle.vx_rows.proofs.FillLemmas.{answer-along}
use Rattle.vx_rows.proofs.casting.retyping.retyped_values.Goals as goal

pub of_values-requires : goal.of_values-requires
of_values-requires c = ap (list_all (fits (type_of c.args.dtype.now))) (c.in_ok-values.ensures ∙ ap (λ k. k.values) c.in_ok-plain.ensures.kept) ∙ c.requires

pub returns : goal.returns
returns c = answer-along c.of_values.result _ _ (ap (column (type_of c.args.dtype.now)) (c.in_ok-values.ensures ∙ ap (λ k. k.values) c.in_ok-plain.ensures.kept)) c.of_values.ensures.kept
