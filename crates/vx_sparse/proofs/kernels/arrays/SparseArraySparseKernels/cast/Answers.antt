use Rattle.std.proofs.Common.{◌≡◌, sym, subst}
use Rattle.vx_base.specs.TypeOf.{type_of}
use Rattle.vx_model.specs.Column.{Column, column_of}
use Rattle.vx_model.specs.Tree.{Tree}
use Rattle.vx_rules.specs.Conversions.{cast_refusal, casted}
use Rattle.vx_rules.specs.Outcomes.{Follows, outcome}
use Rattle.vx_sparse.proofs.kernels.arrays.SparseArraySparseKernels.cast.Goals as goal

pub returns-clause-answer : goal.returns-clause-answer
returns-clause-answer c =
    let to = type_of c.args.dtype.now in
    subst (λ t. Follows (outcome (cast_refusal (column_of t) to) (casted (column_of t) to)) (λ (out : Tree) (column : Column). column_of out ≡ column) c.cast_rows.result) (sym c.parts.ensures.tree) c.cast_rows.ensures.answer
