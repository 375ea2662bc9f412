use Rattle.std.proofs.Common.{◌∙◌, sym, ap, Ok}
use Rattle.vx_model.specs.Column.{column_of}
use Rattle.vx_rules.specs.Aggregates.{null_count}
use Rattle.vx_sparse.proofs.kernels.arrays.SparseArraySparseKernels.null_count.Goals as goal

pub returns-clause-answer : goal.returns-clause-answer
returns-clause-answer c = ap Ok (c.null_count.ensures ∙ ap (λ t. null_count (column_of t)) (sym c.parts.ensures.tree))
