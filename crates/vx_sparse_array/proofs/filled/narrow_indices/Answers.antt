use Rattle.std.proofs.Common.{map, pos, None, sym, subst}
use Rattle.vx_base.specs.Answers.{Answers}
use Rattle.vx_base.specs.declared.dtype.Nullability.TheVariants.{NonNullable}
use Rattle.vx_base.specs.declared.ptype.PType.TheVariants.{U32}
use Rattle.vx_model.specs.Tree.{primitive}
use Rattle.vx_sparse_array.proofs.filled.narrow_indices.Goals as goal

pub returns : goal.returns
returns c = subst (λ r. Answers r (primitive U32 (map pos c.args.numbers) None NonNullable)) (sym c.index_tree.ensures) (λ i. primitive (c.in_ok-in_unsigned.ensures.0 i) (c.in_ok-in_unsigned.ensures.1 i) None NonNullable)
