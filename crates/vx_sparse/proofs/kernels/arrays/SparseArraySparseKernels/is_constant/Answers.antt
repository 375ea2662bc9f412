use Rattle.std.proofs.Common.{◌≡◌, ◌∙◌, sym, ap, subst, Ok}
use Rattle.vx_base.specs.Answers.{Answers}
use Rattle.vx_base.specs.PlainType.{is_flat}
use Rattle.vx_model.specs.Column.{column_of}
use Rattle.vx_model.specs.TreeType.{tree_type}
use Rattle.vx_model.proofs.SparseLemmas.{type-sparse_of}
use Rattle.vx_rules.specs.Aggregates.{is_constant}
use Rattle.vx_sparse.proofs.kernels.arrays.SparseArraySparseKernels.is_constant.Goals as goal

pub returns-clause-answer : goal.returns-clause-answer
returns-clause-answer c = subst (λ t. Answers c.is_constant.result (is_constant (column_of t))) (sym c.parts.ensures.tree) c.is_constant.ensures.answer

pub returns-clause-no_memory : goal.returns-clause-no_memory
returns-clause-no_memory c = λ s.
    let same = sym (type-sparse_of c.parts.result.0.now c.parts.result.1.now) ∙ ap tree_type (sym c.parts.ensures.tree) in
    subst (λ t. c.is_constant.result ≡ Ok (is_constant (column_of t))) (sym c.parts.ensures.tree) (c.is_constant.ensures.flat (ap is_flat same ∙ s))
