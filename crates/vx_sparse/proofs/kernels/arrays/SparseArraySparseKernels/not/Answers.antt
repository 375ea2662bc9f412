use Rattle.std.proofs.Common.{◌≡◌, sym, subst}
use Rattle.std.specs.Prelude.{IfOk}
use Rattle.vx_base.specs.Answers.{Decided}
use Rattle.vx_model.specs.Column.{column_of}
use Rattle.vx_rules.specs.Comparisons.{negation, not_refusal}
use Rattle.vx_sparse.specs.Places.{places_in}
use Rattle.vx_sparse.proofs.kernels.arrays.SparseArraySparseKernels.not.Goals as goal

pub returns-clause-answer : goal.returns-clause-answer
returns-clause-answer c =
    subst (λ t. Decided (not_refusal (column_of t)) (λ out. column_of out ≡ negation (column_of t)) c.negated.result) (sym c.parts.ensures.tree) c.negated.ensures.answer

pub returns-clause-places : goal.returns-clause-places
returns-clause-places c = subst (λ t. IfOk c.negated.result (λ out. places_in out ≡ places_in t)) (sym c.parts.ensures.tree) c.negated.ensures.places
