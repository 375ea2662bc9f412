use Rattle.std.proofs.Common.{◌≡◌, sym, subst}
use Rattle.vx_base.specs.Answers.{Decided}
use Rattle.vx_model.specs.Column.{column_of}
use Rattle.vx_rules.specs.Conversions.{fill_null_refusal, null_filled}
use Rattle.vx_sparse.proofs.kernels.arrays.SparseArraySparseKernels.fill_null.Goals as goal

pub returns-clause-answer : goal.returns-clause-answer
returns-clause-answer c =
    let value = c.args.fill.now in
    subst (λ t. Decided (fill_null_refusal (column_of t) value) (λ out. column_of out ≡ null_filled (column_of t) value) c.filled.result) (sym c.parts.ensures.tree) c.filled.ensures.answer
