use Rattle.std.proofs.Common.{◌≡◌, ◌<◌, ◌^◌, true, length, sym, subst}
use Rattle.vx_base.specs.Answers.{Answers}
use Rattle.vx_base.specs.declared.ptype.PType.TheVariants.{U32}
use Rattle.vx_sparse_array.specs.Filling.{filled_tree, is_mostly_null, null_filling}
use Rattle.vx_sparse_array.proofs.encode.over_most_nulls.Goals as goal

pub over_nulls-requires-clause-mostly : goal.over_nulls-requires-clause-mostly
over_nulls-requires-clause-mostly c = subst (λ d. is_mostly_null d.values ≡ true) (sym c.in_ok-plain.ensures.column) c.requires.mostly

pub over_nulls-requires-clause-few : goal.over_nulls-requires-clause-few
over_nulls-requires-clause-few c = subst (λ d. length d.values < 2 ^ 32) (sym c.in_ok-plain.ensures.column) c.requires.few

pub returns : goal.returns
returns c = subst (λ d. Answers c.over_nulls.result (filled_tree U32 null_filling d)) c.in_ok-plain.ensures.column c.over_nulls.ensures
