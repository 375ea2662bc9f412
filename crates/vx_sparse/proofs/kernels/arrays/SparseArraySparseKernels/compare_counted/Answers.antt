use Rattle.std.proofs.Common.{◌≡◌, ◌∙◌, ◌+◌, sym, ap, subst, arith}
use Rattle.std.specs.Prelude.{IfOk}
use Rattle.vx_base.specs.Answers.{Decided}
use Rattle.vx_model.specs.Column.{column_of}
use Rattle.vx_rules.specs.Comparisons.{compare_refusal, comparison}
use Rattle.vx_rules.specs.Operations.{repeated}
use Rattle.vx_sparse.specs.Kernels.{patch_count}
use Rattle.vx_sparse.proofs.KernelAnswers.{patch_count-sparse}
use Rattle.vx_sparse.proofs.kernels.arrays.SparseArraySparseKernels.compare_counted.Goals as goal

pub returns-clause-answer : goal.returns-clause-answer
returns-clause-answer g c =
    let s = c.args.value.now in
    let op = c.args.operator in
    subst (λ t. Decided (compare_refusal (column_of t) (repeated s (column_of t))) (λ out. column_of out ≡ comparison op (column_of t) (repeated s (column_of t))) c.counted_comparison.result)
    (sym c.parts.ensures.tree) c.counted_comparison.ensures.answer

pub returns-clause-most : goal.returns-clause-most
returns-clause-most g c =
    let many = ap patch_count c.parts.ensures.tree ∙ patch_count-sparse c.parts.result.0.now c.parts.result.1.now in
    omega (arith, many, c.counted_comparison.ensures.most)

pub returns-clause-judged : goal.returns-clause-judged
returns-clause-judged g c =
    let many = ap patch_count c.parts.ensures.tree ∙ patch_count-sparse c.parts.result.0.now c.parts.result.1.now in
    subst (λ n. IfOk c.counted_comparison.result (λ _. c.counted_comparison.new.steps ≡ c.args.steps.now + (n + 1))) (sym many) c.counted_comparison.ensures.judged
