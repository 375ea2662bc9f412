use Rattle.std.proofs.Common.{◌≡◌, ◌∙◌, sym, ap, subst, arith}
use Rattle.vx_base.specs.Answers.{Decided, SurelyDecided}
use Rattle.vx_model.specs.Column.{column_of}
use Rattle.vx_model.specs.TreeType.{tree_type}
use Rattle.vx_model.proofs.SparseLemmas.{type-sparse_of}
use Rattle.vx_rules.specs.Selections.{row_refusal, row_scalar}
use Rattle.vx_sparse.specs.Kernels.{is_summable, patch_count}
use Rattle.vx_sparse.proofs.KernelAnswers.{patch_count-sparse}
use Rattle.vx_sparse.proofs.kernels.arrays.SparseArraySparseKernels.scalar_at_counted.Goals as goal

pub returns-clause-answer : goal.returns-clause-answer
returns-clause-answer g c =
    subst (λ t. Decided (row_refusal (column_of t) c.args.row) (λ s. s ≡ row_scalar (column_of t) c.args.row) c.counted_row.result) (sym c.parts.ensures.tree) c.counted_row.ensures.answer

pub returns-clause-no_memory : goal.returns-clause-no_memory
returns-clause-no_memory g c = λ s.
    let same = sym (type-sparse_of c.parts.result.0.now c.parts.result.1.now) ∙ ap tree_type (sym c.parts.ensures.tree) in
    subst (λ t. SurelyDecided (row_refusal (column_of t) c.args.row) (λ s. s ≡ row_scalar (column_of t) c.args.row) c.counted_row.result) (sym c.parts.ensures.tree)
    (c.counted_row.ensures.no_memory (ap is_summable same ∙ s))

pub returns-clause-probes : goal.returns-clause-probes
returns-clause-probes g c =
    let many = ap patch_count c.parts.ensures.tree ∙ patch_count-sparse c.parts.result.0.now c.parts.result.1.now in
    omega (arith, many, c.counted_row.ensures.probes)
