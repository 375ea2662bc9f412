use Rattle.std.proofs.Common.{◌≡◌, ◌∙◌, length, sym, ap, subst}
use Rattle.vx_base.specs.Answers.{Decided}
use Rattle.vx_base.specs.PlainScalar.{PlainScalar}
use Rattle.vx_model.specs.Column.{column_of}
use Rattle.vx_model.specs.Rows.{rows}
use Rattle.vx_model.specs.Tree.{constant, sparse_of}
use Rattle.vx_rules.specs.Comparisons.{compare_refusal, comparison}
use Rattle.vx_sparse.specs.Places.{places_in}
use Rattle.vx_sparse.proofs.KernelTypes.{if_ok-more}
use Rattle.vx_sparse.proofs.Operands.{by-constant}
use Rattle.vx_sparse.proofs.Places.{if_ok-each}
use Rattle.vx_sparse.proofs.kernels.arrays.SparseArraySparseKernels.compare.Goals as goal

pub returns-in-Some-clause-answer : goal.returns-in-Some-clause-answer
returns-in-Some-clause-answer c =
    by-constant c.args.self.now (sparse_of c.parts.result.0.now c.parts.result.1.now) c.parts.ensures.tree compare_refusal (comparison c.args.operator) c.compare_value.result
    c.args.other.now c.in-Some.value.now c.len.result (c.len.ensures ∙ ap (λ t. length (rows t)) c.as_array-whole.ensures.tree) c.in-Some.ensures c.compare_value.ensures.answer

pub returns-in-None-clause-answer : goal.returns-in-None-clause-answer
returns-in-None-clause-answer c =
    let op = c.args.operator in
    let d = column_of c.args.other.now in
    subst (λ t. Decided (compare_refusal (column_of t) d) (λ out. column_of out ≡ comparison op (column_of t) d) c.compare.result) c.as_array-whole.ensures.tree c.compare.ensures.answer

pub returns-in-Some-clause-places : goal.returns-in-Some-clause-places
returns-in-Some-clause-places c =
    let t = sparse_of c.parts.result.0.now c.parts.result.1.now in
    if_ok-more (λ out. places_in out ≡ places_in t) (λ out. (value : PlainScalar) → c.args.other.now ≡ constant value (length (rows c.args.self.now)) → places_in out ≡ places_in c.args.self.now) c.compare_value.result
    (λ out e value h. e ∙ ap places_in (sym c.parts.ensures.tree)) c.compare_value.ensures.places

pub returns-in-None-clause-places : goal.returns-in-None-clause-places
returns-in-None-clause-places c =
    let len = c.len.ensures ∙ ap (λ t. length (rows t)) c.as_array-whole.ensures.tree in
    if_ok-each (λ out. (value : PlainScalar) → c.args.other.now ≡ constant value (length (rows c.args.self.now)) → places_in out ≡ places_in c.args.self.now) c.compare.result
    (λ out value h. absurd (c.in-None.ensures value (h ∙ ap (constant value) (sym len))))
