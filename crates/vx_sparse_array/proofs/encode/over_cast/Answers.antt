use Rattle.std.proofs.Common.{◌∙◌, sym, ap, subst}
use Rattle.vx_base.specs.Answers.{Answers}
use Rattle.vx_base.specs.declared.ptype.PType.TheVariants.{U64}
use Rattle.vx_sparse_array.specs.Filling.{filled_tree, value_filling}
use Rattle.vx_sparse_array.proofs.encode.over_cast.Goals as goal

pub over_value-requires-clause-fill : goal.over_value-requires-clause-fill
over_value-requires-clause-fill c = c.requires ∙ ap (λ d. d.dtype) (sym c.in_ok-plain.ensures.column)

pub returns : goal.returns
returns c = subst (λ d. Answers c.over_value.result (filled_tree U64 (value_filling c.args.fill.value) d)) c.in_ok-plain.ensures.column c.over_value.ensures
