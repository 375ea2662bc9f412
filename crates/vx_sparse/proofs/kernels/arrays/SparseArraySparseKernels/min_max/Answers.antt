use Rattle.std.proofs.Common.{◌≡◌, ◌∙◌, sym, ap, subst}
use Rattle.vx_base.specs.Answers.{Decided, SurelyDecided}
use Rattle.vx_model.specs.Column.{column_of}
use Rattle.vx_model.specs.TreeType.{tree_type}
use Rattle.vx_model.proofs.SparseLemmas.{type-sparse_of}
use Rattle.vx_rules.specs.Aggregates.{min_max, min_max_refusal}
use Rattle.vx_sparse.specs.Kernels.{is_summable}
use Rattle.vx_sparse.proofs.kernels.arrays.SparseArraySparseKernels.min_max.Goals as goal

pub returns-clause-answer : goal.returns-clause-answer
returns-clause-answer c =
    subst (λ t. Decided (min_max_refusal (column_of t)) (λ pair. pair ≡ min_max (column_of t)) c.min_max.result) (sym c.parts.ensures.tree) c.min_max.ensures.answer

pub returns-clause-no_memory : goal.returns-clause-no_memory
returns-clause-no_memory c = λ s.
    let same = sym (type-sparse_of c.parts.result.0.now c.parts.result.1.now) ∙ ap tree_type (sym c.parts.ensures.tree) in
    subst (λ t. SurelyDecided (min_max_refusal (column_of t)) (λ pair. pair ≡ min_max (column_of t)) c.min_max.result) (sym c.parts.ensures.tree)
    (c.min_max.ensures.no_memory (ap is_summable same ∙ s))
