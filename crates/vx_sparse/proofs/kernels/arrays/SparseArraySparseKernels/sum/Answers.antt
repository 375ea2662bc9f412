use Rattle.std.proofs.Common.{◌≡◌, sym, subst}
use Rattle.vx_base.specs.Answers.{SurelyDecided}
use Rattle.vx_model.specs.Column.{column_of}
use Rattle.vx_rules.specs.Aggregates.{sum, sum_refusal}
use Rattle.vx_sparse.proofs.kernels.arrays.SparseArraySparseKernels.sum.Goals as goal

pub returns-clause-answer : goal.returns-clause-answer
returns-clause-answer c = subst (λ t. SurelyDecided (sum_refusal (column_of t)) (λ s. s ≡ sum (column_of t)) c.sum.result) (sym c.parts.ensures.tree) c.sum.ensures
