use Rattle.std.proofs.Common.{◌≡◌, ◌∙◌, length, sym, ap, subst}
use Rattle.vx_base.specs.Answers.{Decided}
use Rattle.vx_base.specs.PlainScalar.{PlainScalar}
use Rattle.vx_model.specs.Column.{column_of}
use Rattle.vx_model.specs.Rows.{rows}
use Rattle.vx_model.specs.Tree.{constant, sparse_of}
use Rattle.vx_rules.specs.Comparisons.{between, between_refusal}
use Rattle.vx_sparse.specs.Places.{places_in}
use Rattle.vx_sparse.proofs.KernelTypes.{if_ok-more}
use Rattle.vx_sparse.proofs.Operands.{by-constants}
use Rattle.vx_sparse.proofs.Places.{if_ok-each}
use Rattle.vx_sparse.proofs.kernels.arrays.SparseArraySparseKernels.between.Goals as goal

pub returns-in-Some-clause-answer : goal.returns-in-Some-clause-answer
returns-in-Some-clause-answer c =
    by-constants c.args.self.now (sparse_of c.parts.result.0.now c.parts.result.1.now) c.parts.ensures.tree between_refusal (between c.args.options) c.between_values.result
    c.args.lower.now c.args.upper.now c.in-Some.low.now c.in-Some.high.now c.len.result (c.len.ensures ∙ ap (λ t. length (rows t)) c.as_array-whole.ensures.tree)
    c.in-Some.ensures.0 c.in-Some.ensures.1 c.between_values.ensures.answer

pub returns-in-None-clause-answer : goal.returns-in-None-clause-answer
returns-in-None-clause-answer c =
    let options = c.args.options in
    let low = column_of c.args.lower.now in
    let high = column_of c.args.upper.now in
    subst (λ t. Decided (between_refusal (column_of t) low high) (λ out. column_of out ≡ between options (column_of t) low high) c.between.result) c.as_array-whole.ensures.tree c.between.ensures.answer

pub returns-in-Some-clause-places : goal.returns-in-Some-clause-places
returns-in-Some-clause-places c =
    let t = sparse_of c.parts.result.0.now c.parts.result.1.now in
    if_ok-more (λ out. places_in out ≡ places_in t) (λ out. (low high : PlainScalar) → c.args.lower.now ≡ constant low (length (rows c.args.self.now)) → c.args.upper.now ≡ constant high (length (rows c.args.self.now)) → places_in out ≡ places_in c.args.self.now) c.between_values.result
    (λ out e low high h k. e ∙ ap places_in (sym c.parts.ensures.tree)) c.between_values.ensures.places

pub returns-in-None-clause-places : goal.returns-in-None-clause-places
returns-in-None-clause-places c =
    let len = c.len.ensures ∙ ap (λ t. length (rows t)) c.as_array-whole.ensures.tree in
    if_ok-each (λ out. (low high : PlainScalar) → c.args.lower.now ≡ constant low (length (rows c.args.self.now)) → c.args.upper.now ≡ constant high (length (rows c.args.self.now)) → places_in out ≡ places_in c.args.self.now) c.between.result
    (λ out low high h k. absurd (c.in-None.ensures low high (h ∙ ap (constant low) (sym len)) (k ∙ ap (constant high) (sym len))))
